-- What threads do while a command runs.
use Rattle.std.proofs.Common.{◌≡◌, ◌≢◌, ℕ, zero, suc, ◌+◌, ◌<◌, ◌≤◌, Bool, true, false, List, [], ◌∷◌, Option, Some, None, filter, refl, sym, ap, ◌∙◌, subst, inl, inr, arith}
use Rattle.std.specs.List.{All, range_with_len}
use Rattle.std.proofs.lemmas.Bool.{true≢false, false≢true, cases_eq, eq-eqb, ne_eqb}
use Rattle.std.proofs.lemmas.List.Elements.{All-nil, All-cons, All-head, All-tail, All-filter}
use Rattle.machine_steps.specs.declared.states.Power.{Power}
use Rattle.machine_steps.specs.declared.states.Power.TheVariants as power
use Rattle.machine_steps.specs.declared.states.ThreadState.{ThreadState}
use Rattle.machine_steps.specs.declared.states.ThreadState.TheVariants.{Cold, Up, Offline}
use Rattle.machine_steps.specs.Hardware.{Setting, Hardware, is_off, is_on, is_asleep, is_up, put, threads_of, with_power, with_thread, suspended, switched_off}
use Rattle.machine_steps.specs.BringUps.{CachedPatches, brought, bring_up, bring_up_each, bring_up_all, remembered_threads, to_write}
use Rattle.session_laws.specs.Standing.{ThreadsStand}

-- what stands of the threads of a machine
abbrev pub Stand : Setting → Hardware → Type 0
Stand setting hardware = ThreadsStand setting.threads hardware.power hardware.thread hardware.remembered

-- ---- power

pub off_is_not_on : (power : Power) → is_off power ≡ true → is_on power ≡ false
off_is_not_on power.Off off = refl
off_is_not_on power.On off = absurd (false≢true off)
off_is_not_on power.Asleep off = refl

pub asleep_is_not_on : (power : Power) → is_asleep power ≡ true → is_on power ≡ false
asleep_is_not_on power.Off asleep = refl
asleep_is_not_on power.On asleep = absurd (false≢true asleep)
asleep_is_not_on power.Asleep asleep = refl

-- ---- a thread that comes up

put_here : (thread : ℕ → ThreadState) (t : ℕ) (state : ThreadState) → put thread t state t ≡ state
put_here thread t state = rw (eq-eqb t t refl) refl

put_far : (thread : ℕ → ThreadState) (t u : ℕ) (state : ThreadState) → u ≢ t → put thread t state u ≡ thread u
put_far thread t u state other = rw (ne_eqb u t other) refl

-- what coming up leaves as it was
record Keeps (old new : Hardware) : Type 0 where
  power : new.power ≡ old.power
  thread : new.thread ≡ old.thread
  remembered : new.remembered ≡ old.remembered

brought_keeps : (hardware : Hardware) (t g : ℕ) (new : Option ℕ) (refuses : Bool) →
    Keeps hardware (brought hardware t g new refuses).after
brought_keeps hardware t g None refuses = record { power = refl; thread = refl; remembered = refl }
brought_keeps hardware t g (Some new) true = record { power = refl; thread = refl; remembered = refl }
brought_keeps hardware t g (Some new) false = record { power = refl; thread = refl; remembered = refl }

came_up : (setting : Setting) (patches : CachedPatches) (hardware : Hardware) (t : ℕ) →
    Keeps (with_thread hardware t Up) (bring_up setting patches hardware t).after
came_up setting patches hardware t =
    brought_keeps (with_thread hardware t Up) t (setting.group t)
    (to_write setting patches hardware (setting.group t)) (hardware.refuses (setting.group t))

-- Threads came up one after the other, none of them past the table: power and the remembered threads stay, and so do the
-- threads that are up, and those past the table.
pub record Brings (old new : Hardware) (threads : ℕ) : Type 0 where
  pub power : new.power ≡ old.power
  pub remembered : new.remembered ≡ old.remembered
  pub up : (u : ℕ) → old.thread u ≡ Up → new.thread u ≡ Up
  pub past : (u : ℕ) → threads ≤ u → new.thread u ≡ old.thread u

up_with : (thread : ℕ → ThreadState) (t u : ℕ) → thread u ≡ Up → put thread t Up u ≡ Up
up_with thread t u up = elim (cases_eq u t) [
  | inl same ↦ ap (put thread t Up) same ∙ put_here thread t Up
  | inr other ↦ put_far thread t u Up other ∙ up
]

pub brings : (setting : Setting) (patches : CachedPatches) (hardware : Hardware) (threads : ℕ) (ts : List ℕ) →
    All (λ t. t < threads) ts → Brings hardware (bring_up_each setting patches hardware ts).after threads
brings setting patches hardware threads [] below =
    record { power = refl; remembered = refl; up = λ u up. up; past = λ u past. refl }
brings setting patches hardware threads (t ∷ ts) below =
    let came = came_up setting patches hardware t in
    let rest = brings setting patches (bring_up setting patches hardware t).after threads ts
    (All-tail (λ t. t < threads) t ts below) in
    let here : t < threads = All-head (λ t. t < threads) t ts below in
    record {
      power = rest.power ∙ came.power;
      remembered = rest.remembered ∙ came.remembered;
      up = λ u up. rest.up u (ap (λ (thread : ℕ → ThreadState). thread u) came.thread ∙ up_with hardware.thread t u up);
      past = λ u past. rest.past u past ∙ ap (λ (thread : ℕ → ThreadState). thread u) came.thread
          ∙ put_far hardware.thread t u Up (λ same. absurd (omega (arith, same, here, past)));
    }

-- the first of them is up then
first_is_up : (setting : Setting) (patches : CachedPatches) (hardware : Hardware) (threads t : ℕ) (ts all : List ℕ) →
    all ≡ t ∷ ts → All (λ t. t < threads) all → (bring_up_each setting patches hardware all).after.thread t ≡ Up
first_is_up setting patches hardware threads t ts all is below =
    let came = came_up setting patches hardware t in
    let rest = brings setting patches (bring_up setting patches hardware t).after threads ts
    (All-tail (λ t. t < threads) t ts (subst (All (λ t. t < threads)) is below)) in
    subst (λ (l : List ℕ). (bring_up_each setting patches hardware l).after.thread t ≡ Up) (sym is)
    (rest.up t (ap (λ (thread : ℕ → ThreadState). thread t) came.thread ∙ put_here hardware.thread t Up))

-- ---- the threads of a machine, and the remembered ones

row_is_below : (low n : ℕ) → All (λ t. t < low + n) (range_with_len low n)
row_is_below low zero = All-nil (λ t. t < low + 0)
row_is_below low (suc n) =
    let same : low + 1 + n ≡ low + suc n = omega arith in
    All-cons (λ t. t < low + suc n) low (range_with_len (low + 1) n) (omega arith)
    (subst (λ (k : ℕ). All (λ t. t < k) (range_with_len (low + 1) n)) same (row_is_below (low + 1) n))

pub are_below : (n : ℕ) → All (λ t. t < n) (range_with_len 0 n)
are_below n = let same : 0 + n ≡ n = omega arith in
    subst (λ (k : ℕ). All (λ t. t < k) (range_with_len 0 n)) same (row_is_below 0 n)

row_begins : (n : ℕ) → 0 < n → (ts : List ℕ) × (range_with_len 0 n ≡ 0 ∷ ts)
row_begins zero some = absurd (omega (arith, some))
row_begins (suc n) some = (range_with_len 1 n, refl)

kept_begins : (test : ℕ → Bool) (n : ℕ) → 0 < n → test 0 ≡ true →
    (ts : List ℕ) × (filter test (range_with_len 0 n) ≡ 0 ∷ ts)
kept_begins test zero some passes = absurd (omega (arith, some))
kept_begins test (suc n) some passes = (filter test (range_with_len 1 n), rw passes refl)

-- where the power was switched on and threads come up, 0 the first of them
woken_stand : (setting : Setting) (patches : CachedPatches) (old : Hardware) (ts all : List ℕ) → Stand setting old →
    is_on old.power ≡ false → all ≡ 0 ∷ ts → All (λ t. t < setting.threads) all
    → Stand setting (bring_up_each setting patches (with_power old power.On) all).after
woken_stand setting patches old ts all stands off begins below =
    let on : Hardware = with_power old power.On in
    let all_come = brings setting patches on setting.threads all below in
    record {
      first_is_up = λ is. first_is_up setting patches on setting.threads 0 ts all begins below;
      all_are_cold = λ is_not. absurd (true≢false (sym (ap is_on all_come.power) ∙ is_not));
      is_remembered = λ asleep. absurd (false≢true (sym (ap is_asleep all_come.power) ∙ asleep));
      past = λ t past. all_come.past t past ∙ stands.past t past;
    }

pub all_stand : (setting : Setting) (patches : CachedPatches) (old : Hardware) → 0 < setting.threads → Stand setting old →
    is_on old.power ≡ false → Stand setting (bring_up_all setting patches (with_power old power.On)).after
all_stand setting patches old some stands off =
    let begins = row_begins setting.threads some in
    woken_stand setting patches old begins.0 (threads_of setting) stands off begins.1 (are_below setting.threads)

pub remembered_stand : (setting : Setting) (patches : CachedPatches) (old : Hardware) → 0 < setting.threads →
    Stand setting old → is_asleep old.power ≡ true
    → Stand setting (bring_up_each setting patches (with_power old power.On) (remembered_threads setting old)).after
remembered_stand setting patches old some stands asleep =
    let begins = kept_begins old.remembered setting.threads some (stands.is_remembered asleep) in
    woken_stand setting patches old begins.0 (remembered_threads setting old) stands
    (asleep_is_not_on old.power asleep) begins.1
    (All-filter old.remembered (λ t. t < setting.threads) (threads_of setting) (are_below setting.threads))

-- power stays on after a bring-up, and so nothing is to be shown of a machine that is off
pub power_stays : (setting : Setting) (patches : CachedPatches) (old : Hardware) (ts : List ℕ) →
    (bring_up_each setting patches old ts).after.power ≡ old.power
power_stays setting patches old [] = refl
power_stays setting patches old (t ∷ ts) = power_stays setting patches (bring_up setting patches old t).after ts
    ∙ (came_up setting patches old t).power

-- ---- the other calls

pub one_more_stands : (setting : Setting) (patches : CachedPatches) (old : Hardware) (t : ℕ) → t < setting.threads →
    is_on old.power ≡ true → Stand setting old → Stand setting (bring_up_each setting patches old (t ∷ [])).after
one_more_stands setting patches old t below on stands =
    let came = brings setting patches old setting.threads (t ∷ [])
    (All-cons (λ t. t < setting.threads) t [] below (All-nil (λ t. t < setting.threads))) in
    let now_on : is_on (bring_up_each setting patches old (t ∷ [])).after.power ≡ true = ap is_on came.power ∙ on in
    record {
      first_is_up = λ is. came.up 0 (stands.first_is_up on);
      all_are_cold = λ is_not. absurd (true≢false (sym now_on ∙ is_not));
      is_remembered = λ asleep. absurd (false≢true (sym (asleep_is_not_on _ asleep) ∙ now_on));
      past = λ u past. came.past u past ∙ stands.past u past;
    }

cold_is_not_up : (state : ThreadState) → state ≡ Cold → is_up state ≡ true → ⊥
cold_is_not_up state cold up = false≢true (sym (ap is_up cold) ∙ up)

pub one_down_stands : (setting : Setting) (old : Hardware) (t : ℕ) → is_on old.power ≡ true → t ≢ 0 →
    is_up (old.thread t) ≡ true → Stand setting old → Stand setting (with_thread old t Offline)
one_down_stands setting old t on other up stands = record {
  first_is_up = λ is. put_far old.thread t 0 Offline (λ same. other (sym same)) ∙ stands.first_is_up on;
  all_are_cold = λ is_not. absurd (true≢false (sym on ∙ is_not));
  is_remembered = λ asleep. absurd (false≢true (sym (asleep_is_not_on old.power asleep) ∙ on));
  past = λ u past. put_far old.thread t u Offline
      (λ same. cold_is_not_up (old.thread t) (ap old.thread (sym same) ∙ stands.past u past) up) ∙ stands.past u past;
}

pub suspended_stands : (setting : Setting) (old : Hardware) → is_on old.power ≡ true → Stand setting old →
    Stand setting (suspended setting old)
suspended_stands setting old on stands = record {
  first_is_up = λ is. absurd (false≢true is);
  all_are_cold = λ is_not t. refl;
  is_remembered = λ asleep. ap is_up (stands.first_is_up on);
  past = λ u past. refl;
}

pub switched_off_stands : (setting : Setting) → Stand setting (switched_off setting)
switched_off_stands setting = record {
  first_is_up = λ is. absurd (false≢true is);
  all_are_cold = λ is_not t. refl;
  is_remembered = λ asleep. absurd (false≢true asleep);
  past = λ u past. refl;
}
