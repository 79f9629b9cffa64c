-- Tables of which one entry changes, and other things that every step needs.
use Rattle.std.proofs.Common.{◌≡◌, ◌≢◌, ℕ, ◌+◌, ◌-◌, ◌<◌, ◌≤◌, Bool, true, false, not, ◌&&◌, ◌==◌, nat_lt, refl, ap, sym, ◌∙◌, subst, arith, inl, inr, true≢false}
use mathlib.Core.Path.{fun_ext}
use Rattle.std.proofs.lemmas.Bool.{cases_lt}
use Rattle.std.proofs.lemmas.Bool.Decides.{nat_tests}
use Rattle.rendezvous_steps.specs.declared.steps.Kind.{Kind}
use Rattle.rendezvous_steps.specs.declared.steps.Kind.TheVariants.{Online, Offline}
use Rattle.rendezvous_steps.specs.declared.steps.Phase.{Phase}
use Rattle.rendezvous_steps.specs.declared.steps.Local.{Local}
use Rattle.rendezvous_steps.specs.Plan.{Plan, Sound, is_offline, is_absent, is_primary, is_sibling, offline_count}
use Rattle.rendezvous_steps.specs.Padded.{Padded}
use Rattle.rendezvous_steps.specs.Events.{put}
use Rattle.rendezvous_model.specs.Round.{State}
use Rattle.rule_laws.proofs.Count.{same_or_not, count_some}
use Rattle.rule_laws.proofs.Search.{offline_in_range}

-- Tables.

pub put_same : {A : Type 0} (table : ℕ → A) (t : ℕ) (entry : A) → put table t entry t ≡ entry
unfolding put
put_same table t entry = let e : (t == t) ≡ true = grind (arith, nat_tests) in rw e refl

pub put_other : {A : Type 0} (table : ℕ → A) (t u : ℕ) (entry : A) → u ≢ t → put table t entry u ≡ table u
unfolding put
put_other table t u entry other = let e : (u == t) ≡ false = grind (arith, nat_tests) in rw e refl

-- what holds of the new entry and of each other one holds of all
pub put_all :
    {A : Type 0} (P : ℕ → A → Type 0) (table : ℕ → A) (t : ℕ) (entry : A) →
    P t entry → ((u : ℕ) → u ≢ t → P u (table u)) → (u : ℕ) → P u (put table t entry u)
put_all P table t entry here others u =
    elim (same_or_not u t) [
      | inl e ↦ subst (λ v. P v (put table t entry v)) (sym e) (subst (λ x. P t x) (sym (put_same table t entry)) here)
      | inr other ↦ subst (λ x. P u x) (sym (put_other table t u entry other)) (others u other)
    ]

-- an entry that is put back leaves the table as it was
pub put_back : {A : Type 0} (table : ℕ → A) (t : ℕ) (entry : A) → entry ≡ table t → put table t entry ≡ table
put_back table t entry e = fun_ext (put_all (λ u x. x ≡ table u) table t entry e (λ u other. refl))

-- a table that is computed from another, entry by entry
pub put_map :
    {A B : Type 0} (f : ℕ → A → B) (table : ℕ → A) (t : ℕ) (entry : A) →
    ◌≡◌ {A = ℕ → B} (λ u. f u (put table t entry u)) (put (λ u. f u (table u)) t (f t entry))
put_map f table t entry =
    fun_ext
    (put_all (λ u x. f u x ≡ put (λ v. f v (table v)) t (f t entry) u) table t entry
    (sym (put_same (λ v. f v (table v)) t (f t entry)))
    (λ u other. sym (put_other (λ v. f v (table v)) t u (f t entry) other)))

-- The same where what is computed from the entry stays as it was: the code of a word that the change does not touch.
pub code_kept :
    {A B : Type 0} (f : ℕ → A → B) (table : ℕ → A) (t : ℕ) (entry : A) →
    f t entry ≡ f t (table t) → ◌≡◌ {A = ℕ → B} (λ u. f u (put table t entry u)) (λ u. f u (table u))
code_kept f table t entry e =
    fun_ext (put_all (λ u x. f u x ≡ f u (table u)) table t entry e (λ u other. refl))

-- And where the entry becomes x: a word that codes it becomes the code of x.
pub coded :
    {A B : Type 0} (f : ℕ → A → B) (table : ℕ → A) (t : ℕ) (entry : A) (x : B) →
    x ≡ f t entry → put (λ u. f u (table u)) t x ≡ (λ u. f u (put table t entry u))
coded f table t entry x e =
    ap (put (λ u. f u (table u)) t) e ∙ sym (put_map f table t entry)

-- a set that a number is added to has all that it had
pub grows : (set : ℕ → Bool) (t u : ℕ) → set u ≡ true → put set t true u ≡ true
grows set t u e =
    put_all (λ v x. set v ≡ true → x ≡ true) set t true (λ f. refl) (λ v other f. f) u e

-- States.

-- two states that agree everywhere are one
pub same_state :
    (a b : State) →
    ((u : ℕ) → a.place u ≡ b.place u) →
    ((u : ℕ) → a.kicked u ≡ b.kicked u) →
    ((u : ℕ) → a.arrived u ≡ b.arrived u) →
    ((u : ℕ) → a.freed u ≡ b.freed u) →
    ((u : ℕ) → a.latched u ≡ b.latched u) →
    a.stage ≡ b.stage →
    ((u : ℕ) → a.is_decider u ≡ b.is_decider u) →
    ((g : ℕ) → a.group g ≡ b.group g) → ((g : ℕ) → a.revision g ≡ b.revision g) → a ≡ b
same_state a b place kicked arrived freed latched stage decider group revision =
    λ i. record {
      place = λ u. place u i;
      kicked = λ u. kicked u i;
      arrived = λ u. arrived u i;
      freed = λ u. freed u i;
      latched = λ u. latched u i;
      stage = stage i;
      is_decider = λ u. decider u i;
      group = λ g. group g i;
      revision = λ g. revision g i;
    }

-- a state with this phase
abbrev pub at_phase : Phase → ℕ → ℕ → ℕ → Local
at_phase p at polls mine = record { phase = p; at = at; polls = polls; mine = mine }

pub is_at : (local : Local) (p : Phase) → local.phase ≡ p → local ≡ at_phase p local.at local.polls local.mine
is_at local p e = λ i. record local { phase = e i }

-- Numbers and tests.

pub equal_numbers : (a b : ℕ) → (a == b) ≡ true → a ≡ b
equal_numbers a b e = grind (arith, nat_tests)

pub other_numbers : (a b : ℕ) → (a == b) ≡ false → a ≢ b
other_numbers a b e f = grind (arith, nat_tests)

pub same_numbers : (a b : ℕ) → a ≡ b → (a == b) ≡ true
same_numbers a b e = grind (arith, nat_tests)

pub different : (a b : ℕ) → a ≢ b → (a == b) ≡ false
different a b e = grind (arith, nat_tests)

pub not_itself : (k : ℕ) → nat_lt k k ≡ false
not_itself k = grind (arith, nat_tests)

pub before_next : (u k l : ℕ) → u ≢ k → (u < l → k + 1 ≤ u → ⊥) → k < l → nat_lt u l ≡ nat_lt u k
before_next u k l other none low =
    elim (cases_lt u k) [
      | inl before ↦
          let a : nat_lt u l ≡ true =
          grind (arith, nat_tests) in let b : nat_lt u k ≡ true = grind (arith, nat_tests) in a ∙ sym b
      | inr after ↦
          elim (cases_lt u l) [
            | inl within ↦ absurd (none within (omega arith))
            | inr past ↦
                let a : nat_lt u l ≡ false =
                grind (arith, nat_tests) in let b : nat_lt u k ≡ false = grind (arith, nat_tests) in a ∙ sym b
          ]
    ]

pub and_true : (a b : Bool) → (a && b) ≡ true → (a ≡ true) × (b ≡ true)
and_true true b e = (refl, e)
and_true false b e = cc

pub and_false : (a b : Bool) → b ≡ false → (a && b) ≡ false
and_false true b e = e
and_false false b e = refl

pub and_both : (a b : Bool) → a ≡ true → b ≡ true → (a && b) ≡ true
and_both a b e f = rw (e, f) refl

pub not_so : (b : Bool) → (b ≡ true → ⊥) → b ≡ false
not_so true f = absurd (f refl)
not_so false f = refl

-- Threads of a plan.

-- an Offline thread is another than an Online one
pub another_kind : (plan : Plan) (t u : ℕ) → plan.kind t ≡ Online → plan.kind u ≡ Offline → u ≢ t
another_kind plan t u online offline e =
    let same : Offline ≡ Online = sym offline ∙ ap plan.kind e ∙ online in cc

pub some_offline : (plan : Plan) → Padded plan → (k : ℕ) → plan.kind k ≡ Offline → 0 < offline_count plan
unfolding offline_count
some_offline plan padded k offline =
    let within = offline_in_range plan padded k offline in
    count_some (λ u. is_offline (plan.kind u)) 0 (plan.threads - 0) k (omega arith) (omega arith)
    (ap is_offline offline)

-- What a sibling is.
pub record Sibling (plan : Plan) (t u : ℕ) : Type 0 where
  pub same_group : plan.group u ≡ plan.group t
  pub another : u ≢ t
  pub present : is_absent (plan.kind u) ≡ false

three : (a b c : Bool) → (a && not b && not c) ≡ true → (a ≡ true) × (b ≡ false) × (c ≡ false)
three true false false e = (refl, refl, refl)
three true false true e = cc
three true true c e = cc
three false b c e = cc

pub sibling : (plan : Plan) (t u : ℕ) → is_sibling plan t u ≡ true → Sibling plan t u
sibling plan t u e =
    let parts = three (plan.group u == plan.group t) (u == t) (is_absent (plan.kind u)) e in
    record { same_group = equal_numbers _ _ parts.0; another = other_numbers _ _ parts.1; present = parts.2 }

pub is_sibling_of :
    (plan : Plan) (t u : ℕ) → plan.group u ≡ plan.group t → u ≢ t → is_absent (plan.kind u) ≡ false →
    is_sibling plan t u ≡ true
is_sibling_of plan t u group other present =
    let a = same_numbers _ _ group in let b = different _ _ other in rw (a, b, present) refl

pub sibling_in_range : (plan : Plan) (t u : ℕ) → Padded plan → is_sibling plan t u ≡ true → u < plan.threads
sibling_in_range plan t u padded e =
    elim (cases_lt u plan.threads) [
      | inl low ↦ low
      | inr past ↦ absurd (true≢false (sym (ap is_absent (padded.no_thread u past)) ∙ (sibling plan t u e).present))
    ]

-- the primary of a group, and its number
pub primary_is : (plan : Plan) (t : ℕ) → is_primary plan t ≡ true → plan.primary (plan.group t) ≡ t
primary_is plan t e = sym (equal_numbers t (plan.primary (plan.group t)) e)

-- t is the primary of u's group, u is another thread that takes part, so u is a sibling of t
pub of_primary :
    (plan : Plan) (t u : ℕ) →
    Sound plan →
    Padded plan →
    plan.primary (plan.group u) ≡ t → is_absent (plan.kind u) ≡ false → u ≢ t → is_sibling plan t u ≡ true
of_primary plan t u sound padded leads present other =
    let within : u < plan.threads =
    elim (cases_lt u plan.threads) [
      | inl low ↦ low
      | inr past ↦ absurd (true≢false (sym (ap is_absent (padded.no_thread u past)) ∙ present))
    ] in
    let group : plan.group u ≡ plan.group t =
    sym (sound.primary_is_one_of_its_group (plan.group u) (sound.groups_in_range u within)) ∙ ap plan.group leads in
    is_sibling_of plan t u group other present

-- of the sibling that is freed
pub leads_sibling :
    (plan : Plan) (t s : ℕ) → is_primary plan t ≡ true → is_sibling plan t s ≡ true → plan.primary (plan.group s) ≡ t
leads_sibling plan t s primary e = ap plan.primary (sibling plan t s e).same_group ∙ primary_is plan t primary

pub no_primary_of :
    (plan : Plan) (t s : ℕ) → is_primary plan t ≡ true → is_sibling plan t s ≡ true → is_primary plan s ≡ false
no_primary_of plan t s primary e =
    different s (plan.primary (plan.group s)) (λ f. (sibling plan t s e).another (f ∙ leads_sibling plan t s primary e))

-- the primary of a thread that takes part is Online
primary_by :
    (plan : Plan) (t : ℕ) (kind : Kind) →
    Sound plan → Padded plan → plan.kind t ≡ kind → is_absent kind ≡ false →
    plan.kind (plan.primary (plan.group t)) ≡ Online
primary_by plan t kind sound padded e present =
    elim (cases_lt t plan.threads) [
      | inl low ↦ sound.present_primary t low (λ f. true≢false (sym (ap is_absent (sym e ∙ f)) ∙ present))
      | inr past ↦ absurd (true≢false (sym (ap is_absent (sym e ∙ padded.no_thread t past)) ∙ present))
    ]

pub primary_online :
    (plan : Plan) (t : ℕ) → Sound plan → Padded plan → is_absent (plan.kind t) ≡ false →
    plan.kind (plan.primary (plan.group t)) ≡ Online
primary_online plan t sound padded present = primary_by plan t (plan.kind t) sound padded refl present

-- an Offline thread is no primary
pub offline_leads_not :
    (plan : Plan) (t : ℕ) → Sound plan → Padded plan → plan.kind t ≡ Offline → is_primary plan t ≡ false
offline_leads_not plan t sound padded offline =
    not_so (is_primary plan t)
    (λ e.
    let online : plan.kind t ≡ Online =
    ap plan.kind (sym (primary_is plan t e)) ∙ primary_online plan t sound padded (ap is_absent offline) in
    let same : Offline ≡ Online = sym offline ∙ online in cc)
