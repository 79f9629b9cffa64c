-- What groups come to while threads come up, one after the other.
use Rattle.std.proofs.Common.{◌≡◌, ◌≢◌, ◌⊎◌, ℕ, zero, suc, ◌+◌, ◌<◌, ◌≤◌, Bool, true, false, ◌==◌, if◌then◌else◌, List, [], ◌∷◌, filter, Option, Some, None, option_map, refl, sym, ap, ◌∙◌, subst, inl, inr, arith}
use Rattle.std.specs.List.{list_all, range_with_len}
use Rattle.std.specs.Option.{unwrap_or}
use Rattle.std.proofs.Math.Nat.{le_refl}
use Rattle.std.proofs.lemmas.Bool.{cases_Bool, cases_eq, cases_lt, eq-eqb, ne_eqb, eqb-true, lt-ltb, le-ltb}
use Rattle.machine_steps.specs.declared.states.ThreadState.{ThreadState}
use Rattle.machine_steps.specs.declared.states.ThreadState.TheVariants.{Cold, Up}
use Rattle.machine_steps.specs.Hardware.{Setting, Hardware, is_cold, all_cold, threads_in, put, with_thread}
use Rattle.machine_steps.specs.BringUps.{CachedPatches, revision, above, to_write, brought, bring_up, bring_up_each}

-- ---- the revision at a power-up

-- what a group with this patch comes to from this revision
abbrev pub come_to : ℕ → Option (List ℕ) → ℕ
come_to rev patch = unwrap_or (above rev patch) rev

above_over : (rev : ℕ) (patch : List ℕ) → rev < revision patch → above rev (Some patch) ≡ Some (revision patch)
above_over rev patch over =
    ap (λ (b : Bool). if b then Some (revision patch) else None) (lt-ltb rev (revision patch) over)

above_under : (rev : ℕ) (patch : List ℕ) → revision patch ≤ rev → above rev (Some patch) ≡ None
above_under rev patch under =
    ap (λ (b : Bool). if b then Some (revision patch) else None) (le-ltb rev (revision patch) under)

-- there is nothing above it
nothing_above : (rev : ℕ) (patch : Option (List ℕ)) → above (come_to rev patch) patch ≡ None
nothing_above rev None = refl
nothing_above rev (Some patch) = elim (cases_lt rev (revision patch)) [
  | inl over ↦
      ap (λ (new : Option ℕ). above (unwrap_or new rev) (Some patch)) (above_over rev patch over)
      ∙ above_under (revision patch) patch (le_refl (revision patch))
  | inr under ↦
      ap (λ (new : Option ℕ). above (unwrap_or new rev) (Some patch)) (above_under rev patch under)
      ∙ above_under rev patch under
]

pub at_least : (rev : ℕ) (patch : Option (List ℕ)) → rev ≤ come_to rev patch
at_least rev None = le_refl rev
at_least rev (Some patch) = elim (cases_lt rev (revision patch)) [
  | inl over ↦
      subst (λ (new : Option ℕ). rev ≤ unwrap_or new rev) (sym (above_over rev patch over)) (omega (arith, over))
  | inr under ↦ subst (λ (new : Option ℕ). rev ≤ unwrap_or new rev) (sym (above_under rev patch under)) (le_refl rev)
]

patch_within : (rev : ℕ) (patch : List ℕ) → revision patch ≤ come_to rev (Some patch)
patch_within rev patch = elim (cases_lt rev (revision patch)) [
  | inl over ↦
      subst (λ (new : Option ℕ). revision patch ≤ unwrap_or new rev) (sym (above_over rev patch over))
      (le_refl (revision patch))
  | inr under ↦ subst (λ (new : Option ℕ). revision patch ≤ unwrap_or new rev) (sym (above_under rev patch under)) under
]

pub of_revision : (first rev : ℕ) (patch : Option (List ℕ)) → option_map revision patch ≡ Some rev →
    rev ≤ come_to first patch
of_revision first rev None is = absurd cc
of_revision first rev (Some patch) is =
    let same : revision patch ≡ rev = cc in
    subst (λ (n : ℕ). n ≤ come_to first (Some patch)) same (patch_within first patch)

-- whatever is written is within it
written_within : (first rev new : ℕ) (patch : Option (List ℕ)) → above rev patch ≡ Some new →
    new ≤ come_to first patch
written_within first rev new None is = absurd cc
written_within first rev new (Some patch) is = elim (cases_lt rev (revision patch)) [
  | inl over ↦
      let whole : Some (revision patch) ≡ Some new = sym (above_over rev patch over) ∙ is in
      let same : revision patch ≡ new = cc in
      subst (λ (n : ℕ). n ≤ come_to first (Some patch)) same (patch_within first patch)
  | inr under ↦ let wrong : None ≡ Some new = sym (above_under rev patch under) ∙ is in absurd cc
]

-- ---- cold groups

same_tests : (one other keep : ℕ → Bool) → ((u : ℕ) → keep u ≡ true → one u ≡ other u) → (ts : List ℕ) →
    list_all one (filter keep ts) ≡ list_all other (filter keep ts)
same_tests one other keep same [] = refl
same_tests one other keep same (u ∷ us) = elim (cases_Bool (keep u)) [
  | inl kept ↦
      let here : one u ≡ other u = same u kept in
      let rest : list_all one (filter keep us) ≡ list_all other (filter keep us) = same_tests one other keep same us in
      rw (kept, here, rest) refl
  | inr dropped ↦ rw dropped (same_tests one other keep same us)
]

all_pass : (test : ℕ → Bool) (ts : List ℕ) → ((t : ℕ) → test t ≡ true) → list_all test ts ≡ true
all_pass test [] each = refl
all_pass test (t ∷ ts) each = rw (each t, all_pass test ts each) refl

put_here : {A : Type 0} (table : ℕ → A) (k : ℕ) (value : A) → put table k value k ≡ value
put_here table k value = rw (eq-eqb k k refl) refl

put_far : {A : Type 0} (table : ℕ → A) (k other : ℕ) (value : A) → other ≢ k → put table k value other ≡ table other
put_far table k other value far = rw (ne_eqb other k far) refl

module _ (setting : Setting) where
  pub cold_where : (hardware : Hardware) (g : ℕ) → ((t : ℕ) → hardware.thread t ≡ Cold) →
      all_cold setting hardware g ≡ true
  unfolding all_cold
  cold_where hardware g cold = all_pass (λ t. is_cold (hardware.thread t)) _ (λ t. ap is_cold (cold t))

  pub cold_by : (old new : Hardware) (g : ℕ) → new.thread ≡ old.thread →
      all_cold setting new g ≡ all_cold setting old g
  unfolding all_cold
  cold_by old new g same =
      ap (λ (thread : ℕ → ThreadState). list_all (λ t. is_cold (thread t)) (threads_in setting g)) same

  pub cold_far : (old : Hardware) (t : ℕ) (state : ThreadState) (g : ℕ) → setting.group t ≢ g →
      all_cold setting (with_thread old t state) g ≡ all_cold setting old g
  unfolding all_cold
  cold_far old t state g far =
      same_tests (λ u. is_cold (put old.thread t state u)) (λ u. is_cold (old.thread u)) (λ u. setting.group u == g)
      (λ u own. ap is_cold (put_far old.thread t u state
      (λ same. far (ap setting.group (sym same) ∙ eqb-true (setting.group u) g own)))) _

-- ---- lists of threads

-- the thread is among them
abbrev pub IsIn : ℕ → List ℕ → Type 0
IsIn t [] = ⊥
IsIn t (u ∷ us) = (u ≡ t) ⊎ IsIn t us

-- so is one of a row of threads that passes a test, among those that do
pub is_in : (test : ℕ → Bool) (low n t : ℕ) → low ≤ t → t < low + n → test t ≡ true →
    IsIn t (filter test (range_with_len low n))
is_in test low zero t above below passes = absurd (omega arith)
is_in test low (suc n) t above below passes = elim (cases_eq low t) [
  | inl here ↦ let first : test low ≡ true = ap test here ∙ passes in rw first (inl here)
  | inr later ↦
      let rest = is_in test (low + 1) n t (omega arith) (omega arith) passes in
      elim (cases_Bool (test low)) [
        | inl kept ↦ rw kept (inr rest)
        | inr dropped ↦ rw dropped rest
      ]
]

module _ (setting : Setting) where
  -- no thread of the group is among them
  abbrev pub AreOthers : ℕ → List ℕ → Type 0
  AreOthers g [] = Unit {0}
  AreOthers g (u ∷ us) = (setting.group u ≢ g) × AreOthers g us

  pub are_others : (test : ℕ → Bool) (g low n : ℕ) →
      ((t : ℕ) → t < low + n → test t ≡ true → setting.group t ≢ g) →
      AreOthers g (filter test (range_with_len low n))
  are_others test g low zero each = tt
  are_others test g low (suc n) each =
      let rest = are_others test g (low + 1) n (λ t below. each t (omega (arith, below))) in
      elim (cases_Bool (test low)) [
        | inl kept ↦ rw kept (each low (omega arith) kept, rest)
        | inr dropped ↦ rw dropped rest
      ]

-- ---- what one thread's coming up writes

brought_thread : (old : Hardware) (t g : ℕ) (new : Option ℕ) (refuses : Bool) →
    (brought old t g new refuses).after.thread ≡ old.thread
brought_thread old t g None refuses = refl
brought_thread old t g (Some new) true = refl
brought_thread old t g (Some new) false = refl

brought_power : (old : Hardware) (t g : ℕ) (new : Option ℕ) (refuses : Bool) →
    (brought old t g new refuses).after.power ≡ old.power
brought_power old t g None refuses = refl
brought_power old t g (Some new) true = refl
brought_power old t g (Some new) false = refl

brought_refuses : (old : Hardware) (t g : ℕ) (new : Option ℕ) (refuses : Bool) →
    (brought old t g new refuses).after.refuses ≡ old.refuses
brought_refuses old t g None refuses = refl
brought_refuses old t g (Some new) true = refl
brought_refuses old t g (Some new) false = refl

brought_far : (old : Hardware) (t g : ℕ) (new : Option ℕ) (refuses : Bool) (h : ℕ) → h ≢ g →
    (brought old t g new refuses).after.rev h ≡ old.rev h
brought_far old t g None refuses h far = refl
brought_far old t g (Some new) true h far = refl
brought_far old t g (Some new) false h far = put_far old.rev g h new far

-- where the group does not refuse
brought_own : (old : Hardware) (t g : ℕ) (new : Option ℕ) →
    (brought old t g new false).after.rev g ≡ unwrap_or new (old.rev g)
brought_own old t g None = refl
brought_own old t g (Some new) = put_here old.rev g new

-- where it refuses
brought_refused : (old : Hardware) (t g : ℕ) (new : Option ℕ) → (brought old t g new true).after ≡ old
brought_refused old t g None = refl
brought_refused old t g (Some new) = refl

brought_within : (old : Hardware) (t g most : ℕ) (new : Option ℕ) (refuses : Bool) → old.rev g ≤ most →
    ((rev : ℕ) → new ≡ Some rev → rev ≤ most) → (brought old t g new refuses).after.rev g ≤ most
brought_within old t g most None refuses low each = low
brought_within old t g most (Some new) true low each = low
brought_within old t g most (Some new) false low each =
    subst (λ (n : ℕ). n ≤ most) (sym (put_here old.rev g new)) (each new refl)

module _ (setting : Setting) (patches : CachedPatches) where
  cold_write : (old : Hardware) (g : ℕ) → all_cold setting old g ≡ true →
      to_write setting patches old g ≡ above (old.rev g) (patches g)
  cold_write old g cold = ap (λ (b : Bool). if b then above (old.rev g) (patches g) else None) cold

  warm_write : (old : Hardware) (g : ℕ) → all_cold setting old g ≡ false → to_write setting patches old g ≡ None
  warm_write old g warm = ap (λ (b : Bool). if b then above (old.rev g) (patches g) else None) warm

  no_write : (old : Hardware) (g : ℕ) → above (old.rev g) (patches g) ≡ None → to_write setting patches old g ≡ None
  no_write old g none = elim (cases_Bool (all_cold setting old g)) [
    | inl cold ↦ cold_write old g cold ∙ none
    | inr warm ↦ warm_write old g warm
  ]

  some_write : (old : Hardware) (g new : ℕ) → to_write setting patches old g ≡ Some new →
      above (old.rev g) (patches g) ≡ Some new
  some_write old g new is = elim (cases_Bool (all_cold setting old g)) [
    | inl cold ↦ sym (cold_write old g cold) ∙ is
    | inr warm ↦ let wrong : None ≡ Some new = sym (warm_write old g warm) ∙ is in absurd cc
  ]

  abbrev after : Hardware → ℕ → Hardware
  after old t = (bring_up setting patches old t).after

  abbrev after_each : Hardware → List ℕ → Hardware
  after_each old ts = (bring_up_each setting patches old ts).after

  thread_after : (old : Hardware) (t : ℕ) → (after old t).thread ≡ put old.thread t Up
  thread_after old t =
      brought_thread (with_thread old t Up) t (setting.group t) (to_write setting patches old (setting.group t))
      (old.refuses (setting.group t))

  refuses_after : (old : Hardware) (t : ℕ) → (after old t).refuses ≡ old.refuses
  refuses_after old t =
      brought_refuses (with_thread old t Up) t (setting.group t) (to_write setting patches old (setting.group t))
      (old.refuses (setting.group t))

  far_after : (old : Hardware) (t g : ℕ) → setting.group t ≢ g → (after old t).rev g ≡ old.rev g
  far_after old t g far =
      brought_far (with_thread old t Up) t (setting.group t) (to_write setting patches old (setting.group t))
      (old.refuses (setting.group t)) g (λ same. far (sym same))

  cold_after : (old : Hardware) (t g : ℕ) → setting.group t ≢ g →
      all_cold setting (after old t) g ≡ all_cold setting old g
  cold_after old t g far =
      cold_by setting (with_thread old t Up) (after old t) g (thread_after old t) ∙ cold_far setting old t Up g far

  -- ---- a thread of the group

  -- where nothing is above its revision, that stays
  own_stays : (old : Hardware) (t : ℕ) → above (old.rev (setting.group t)) (patches (setting.group t)) ≡ None →
      (after old t).rev (setting.group t) ≡ old.rev (setting.group t)
  own_stays old t none =
      ap (λ (new : Option ℕ).
      (brought (with_thread old t Up) t (setting.group t) new (old.refuses (setting.group t))).after.rev
      (setting.group t)) (no_write old (setting.group t) none)

  own_within : (first : ℕ) (old : Hardware) (t : ℕ) →
      old.rev (setting.group t) ≤ come_to first (patches (setting.group t)) →
      (after old t).rev (setting.group t) ≤ come_to first (patches (setting.group t))
  own_within first old t low =
      brought_within (with_thread old t Up) t (setting.group t) (come_to first (patches (setting.group t)))
      (to_write setting patches old (setting.group t)) (old.refuses (setting.group t)) low
      (λ rev is. written_within first (old.rev (setting.group t)) rev (patches (setting.group t))
      (some_write old (setting.group t) rev is))

  -- the first of its threads brings it to what its patch brings, where it does not refuse
  own_comes : (old : Hardware) (t first : ℕ) → old.refuses (setting.group t) ≡ false →
      all_cold setting old (setting.group t) ≡ true → old.rev (setting.group t) ≡ first →
      (after old t).rev (setting.group t) ≡ come_to first (patches (setting.group t))
  own_comes old t first willing cold at =
      let g : ℕ = setting.group t in
      ap (λ (refuses : Bool).
      (brought (with_thread old t Up) t g (to_write setting patches old g) refuses).after.rev g) willing
      ∙ brought_own (with_thread old t Up) t g (to_write setting patches old g)
      ∙ ap (λ (new : Option ℕ). unwrap_or new (old.rev g)) (cold_write old g cold)
      ∙ ap (λ (rev : ℕ). come_to rev (patches g)) at

  -- ---- several threads

  one_stays : (old : Hardware) (t g : ℕ) → above (old.rev g) (patches g) ≡ None → (after old t).rev g ≡ old.rev g
  one_stays old t g none = elim (cases_eq g (setting.group t)) [
    | inl own ↦
        subst (λ (h : ℕ). above (old.rev h) (patches h) ≡ None → (after old t).rev h ≡ old.rev h) (sym own)
        (own_stays old t) none
    | inr far ↦ far_after old t g (λ same. far (sym same))
  ]

  pub stay : (old : Hardware) (g : ℕ) (ts : List ℕ) → above (old.rev g) (patches g) ≡ None →
      (after_each old ts).rev g ≡ old.rev g
  stay old g [] none = refl
  stay old g (t ∷ ts) none =
      let one : (after old t).rev g ≡ old.rev g = one_stays old t g none in
      stay (after old t) g ts (ap (λ (rev : ℕ). above rev (patches g)) one ∙ none) ∙ one

  -- a group that refuses stays at its revision
  own_refuses : (old : Hardware) (t : ℕ) → old.refuses (setting.group t) ≡ true →
      (after old t).rev (setting.group t) ≡ old.rev (setting.group t)
  own_refuses old t refusing =
      let g : ℕ = setting.group t in
      ap (λ (refuses : Bool).
      (brought (with_thread old t Up) t g (to_write setting patches old g) refuses).after.rev g) refusing
      ∙ ap (λ (h : Hardware). h.rev g) (brought_refused (with_thread old t Up) t g (to_write setting patches old g))

  one_refuses : (old : Hardware) (t g : ℕ) → old.refuses g ≡ true → (after old t).rev g ≡ old.rev g
  one_refuses old t g refusing = elim (cases_eq g (setting.group t)) [
    | inl own ↦
        subst (λ (h : ℕ). old.refuses h ≡ true → (after old t).rev h ≡ old.rev h) (sym own) (own_refuses old t) refusing
    | inr far ↦ far_after old t g (λ same. far (sym same))
  ]

  pub refusing_stays : (old : Hardware) (g : ℕ) (ts : List ℕ) → old.refuses g ≡ true →
      (after_each old ts).rev g ≡ old.rev g
  refusing_stays old g [] refusing = refl
  refusing_stays old g (t ∷ ts) refusing =
      refusing_stays (after old t) g ts (ap (λ (refuses : ℕ → Bool). refuses g) (refuses_after old t) ∙ refusing)
      ∙ one_refuses old t g refusing

  one_within : (first : ℕ) (old : Hardware) (t g : ℕ) → old.rev g ≤ come_to first (patches g) →
      (after old t).rev g ≤ come_to first (patches g)
  one_within first old t g low = elim (cases_eq g (setting.group t)) [
    | inl own ↦
        subst (λ (h : ℕ). old.rev h ≤ come_to first (patches h) → (after old t).rev h ≤ come_to first (patches h))
        (sym own) (own_within first old t) low
    | inr far ↦
        subst (λ (rev : ℕ). rev ≤ come_to first (patches g)) (sym (far_after old t g (λ same. far (sym same)))) low
  ]

  -- no group comes to more than its patch brings
  pub within : (first : ℕ) (old : Hardware) (g : ℕ) (ts : List ℕ) → old.rev g ≤ come_to first (patches g) →
      (after_each old ts).rev g ≤ come_to first (patches g)
  within first old g [] low = low
  within first old g (t ∷ ts) low = within first (after old t) g ts (one_within first old t g low)

  later : (t u : ℕ) (us : List ℕ) → setting.group u ≢ setting.group t → IsIn t (u ∷ us) → IsIn t us
  later t u us far (inl same) = absurd (far (ap setting.group same))
  later t u us far (inr rest) = rest

  pub comes : (old : Hardware) (t first : ℕ) (ts : List ℕ) → IsIn t ts → old.refuses (setting.group t) ≡ false →
      all_cold setting old (setting.group t) ≡ true → old.rev (setting.group t) ≡ first →
      (after_each old ts).rev (setting.group t) ≡ come_to first (patches (setting.group t))
  comes old t first [] is willing cold at = absurd is
  comes old t first (u ∷ us) is willing cold at =
      let g : ℕ = setting.group t in
      elim (cases_eq (setting.group u) g) [
        | inl own ↦
            let one : (after old u).rev g ≡ come_to first (patches g) =
            subst (λ (h : ℕ). old.refuses h ≡ false → all_cold setting old h ≡ true → old.rev h ≡ first →
            (after old u).rev h ≡ come_to first (patches h)) own (own_comes old u first) willing cold at in
            stay (after old u) g us
            (ap (λ (rev : ℕ). above rev (patches g)) one ∙ nothing_above first (patches g)) ∙ one
        | inr far ↦
            comes (after old u) t first us (later t u us far is)
            (ap (λ (refuses : ℕ → Bool). refuses g) (refuses_after old u) ∙ willing)
            (cold_after old u g far ∙ cold) (far_after old u g far ∙ at)
      ]

  pub power_stays : (old : Hardware) (ts : List ℕ) → (after_each old ts).power ≡ old.power
  power_stays old [] = refl
  power_stays old (t ∷ ts) =
      let one : (after old t).power ≡ old.power =
      brought_power (with_thread old t Up) t (setting.group t) (to_write setting patches old (setting.group t))
      (old.refuses (setting.group t)) in
      power_stays (after old t) ts ∙ one

  pub stays_up : (old : Hardware) (t : ℕ) (ts : List ℕ) → old.thread t ≡ Up → (after_each old ts).thread t ≡ Up
  stays_up old t [] up = up
  stays_up old t (u ∷ us) up =
      stays_up (after old u) t us
      (ap (λ (thread : ℕ → ThreadState). thread t) (thread_after old u) ∙ elim (cases_eq t u) [
        | inl same ↦ ap (put old.thread u Up) same ∙ put_here old.thread u Up
        | inr far ↦ put_far old.thread u t Up far ∙ up
      ])

  pub comes_up : (old : Hardware) (t : ℕ) (ts : List ℕ) → IsIn t ts → (after_each old ts).thread t ≡ Up
  comes_up old t [] is = absurd is
  comes_up old t (u ∷ us) (inl same) =
      stays_up (after old u) t us
      (ap (λ (thread : ℕ → ThreadState). thread t) (thread_after old u) ∙ ap (put old.thread u Up) (sym same)
      ∙ put_here old.thread u Up)
  comes_up old t (u ∷ us) (inr rest) = comes_up (after old u) t us rest

  -- ---- a group none of whose threads is among them

  pub others_leave : (old : Hardware) (g : ℕ) (ts : List ℕ) → AreOthers setting g ts →
      ((after_each old ts).rev g ≡ old.rev g) × (all_cold setting (after_each old ts) g ≡ all_cold setting old g)
  others_leave old g [] are = (refl, refl)
  others_leave old g (u ∷ us) are =
      let rest = others_leave (after old u) g us are.1 in
      (rest.0 ∙ far_after old u g are.0, rest.1 ∙ cold_after old u g are.0)
