-- The words with which a bay begins, and that the table begins by its rule.
use Rattle.std.proofs.Common.{◌≡◌, ℕ, zero, suc, ◌+◌, ◌-◌, ◌*◌, ◌<◌, ◌≤◌, ◌==◌, ◌&&◌, Bool, true, false, if◌then◌else◌, nat_le, nat_lt, IsTrue, List, [], ◌∷◌, length, slice_index, unwrap_or, refl, sym, ap, subst, ◌∙◌, arith}
use Rattle.std.proofs.Math.Path.{fun_ext}
use Rattle.std.proofs.lemmas.Bool.Decides.{nat_tests}
use Rattle.std.proofs.lemmas.Option.{slice_get_past}
use Rattle.std.proofs.lemmas.List.FromFn.{length-map-range_with_len, get_or-map-range_with_len}
use mathlib.Core.Option.{some, some-injective, some-ne-none}
use lib.ListN.{get_elem?}
use Rattle.atomic_table.specs.Table.{opening as opening_table}
use Rattle.rendezvous_steps.specs.declared.steps.Kind.{Kind}
use Rattle.rendezvous_steps.specs.declared.steps.Kind.TheVariants.{Online, Offline, Absent}
use Rattle.rendezvous_steps.specs.declared.steps.Phase.TheVariants.{Halted}
use Rattle.rendezvous_steps.specs.declared.operations.Word.{Word}
use Rattle.rendezvous_steps.specs.declared.operations.Word.TheVariants.{Arrive, OffIn, Decide, Mode, Ctrl, Nmi, Rev, Res}
use Rattle.rendezvous_steps.specs.Plan.{Plan, Sound}
use Rattle.rendezvous_steps.specs.Words.{families, opening_words}
use Rattle.rendezvous_steps.specs.StepTable.{opening, opening_phase}
use Rattle.rendezvous_rule.specs.Rule.{Rule}
use Rattle.rule_laws.proofs.Opening.{opening_is_ruled}
use Rattle.ctl_words.specs.declared.plans.Plan.{Plan as Tables}
use Rattle.ctl_words.specs.Plans.{plan_of, IsSound}
use Rattle.ctl_words.specs.Places.{is_word, place_of, word_count}
use Rattle.ctl_words.proofs.TablesEnd.{padded}
use Rattle.ctl_table.specs.declared.standings.Standing.{Standing}
use Rattle.ctl_table.specs.declared.standings.View.{View}
use Rattle.ctl_table.specs.declared.standings.View.TheVariants.{Spent, Sits}
use Rattle.ctl_table.specs.Words.{words_of}
use Rattle.ctl_table.specs.Openings.{first_revision, opening_at, opening_row}
use Rattle.ctl_table.specs.Copies.{IsCopy}
use Rattle.ctl_table.specs.Standings.{opening_standing, opening_view}
use Rattle.ctl_table.specs.Holds.{Holds, SeatOk}
use Rattle.ctl_table.proofs.Sitting.{sits_not_spent}
use Rattle.ctl_table.proofs.Reading.{place_below}

-- A copy of a plan is the same plan, and is sound where it is.

pub copy_same : (p q : Tables) → IsCopy p q → plan_of q ≡ plan_of p
copy_same p q c = simp (c.threads, c.kind, c.group, c.primary, c.offer, c.refuse, c.rev0, c.patience)

pub copy_sound : (p q : Tables) → IsCopy p q → IsSound p → IsSound q
copy_sound p q c sound =
    record {
      tables = record {
        some_thread = omega (arith, c.threads, sound.tables.some_thread);
        few_threads = omega (arith, c.threads, sound.tables.few_threads);
        kinds = ap length c.kind ∙ sound.tables.kinds ∙ sym c.threads;
        groups = ap length c.group ∙ sound.tables.groups ∙ sym c.threads;
        offers = ap length c.offer ∙ sound.tables.offers ∙ sym (ap length c.primary);
        refusals = ap length c.refuse ∙ sound.tables.refusals ∙ sym (ap length c.primary);
        revisions = ap length c.rev0 ∙ sound.tables.revisions ∙ sym (ap length c.primary);
      };
      sound = subst Sound (sym (copy_same p q c)) sound.sound;
    }

-- What the word at each place is.

and_left : (a b : Bool) → a ≡ false → (a && b) ≡ false
and_left a b e = rw e refl

and_right : (a b : Bool) → b ≡ false → (a && b) ≡ false
and_right true b e = e
and_right false b e = refl

zero_at : (plan : Plan) (k : ℕ) → (k == 0) ≡ false → (nat_le (first_revision plan) k && nat_lt k (first_revision plan + plan.groups)) ≡ false → opening_at plan k ≡ 0
zero_at plan k past out = rw (past, out) refl

zero_before : (plan : Plan) (k : ℕ) → 0 < k → k < first_revision plan → opening_at plan k ≡ 0
zero_before plan k past before =
    let not_first : (k == 0) ≡ false = grind (arith, nat_tests) in
    let out : nat_le (first_revision plan) k ≡ false = grind (arith, nat_tests) in
    zero_at plan k not_first (and_left _ _ out)

zero_after : (plan : Plan) (k : ℕ) → first_revision plan + plan.groups ≤ k → opening_at plan k ≡ 0
zero_after plan k after =
    let not_first : (k == 0) ≡ false = grind (arith, nat_tests) in
    let out : nat_lt k (first_revision plan + plan.groups) ≡ false = grind (arith, nat_tests) in
    zero_at plan k not_first (and_right _ _ out)

revision_at : (plan : Plan) (g : ℕ) → g < plan.groups → opening_at plan (first_revision plan + g) ≡ plan.rev0 g
revision_at plan g below =
    let k : ℕ = first_revision plan + g in
    let past : (k == 0) ≡ false = grind (arith, nat_tests) in
    let from : nat_le (first_revision plan) k ≡ true = grind (arith, nat_tests) in
    let under : nat_lt k (first_revision plan + plan.groups) ≡ true = grind (arith, nat_tests) in
    let back : k - first_revision plan ≡ g = omega arith in
    rw (past, from, under) (ap plan.rev0 back)

below_of : (n m : ℕ) → IsTrue (nat_lt n m) → n < m
below_of n m e = grind (arith, nat_tests)

value_at : (plan : Plan) (w : Word) → IsTrue (is_word plan w) → opening_at plan (place_of plan w) ≡ opening_words plan w
value_at plan Arrive known = refl
value_at plan OffIn known = zero_before plan 1 (omega arith) (omega arith)
value_at plan Decide known = zero_before plan 2 (omega arith) (omega arith)
value_at plan (Mode t) known = let below = below_of t plan.threads known in zero_before plan (3 + t) (omega arith) (omega arith)
value_at plan (Ctrl t) known = let below = below_of t plan.threads known in zero_before plan (3 + plan.threads + t) (omega arith) (omega arith)
value_at plan (Nmi t) known = let below = below_of t plan.threads known in zero_before plan (3 + 2 * plan.threads + t) (omega arith) (omega arith)
value_at plan (Rev g) known = revision_at plan g (below_of g plan.groups known)
value_at plan (Res g) known = zero_after plan (3 + 3 * plan.threads + plan.groups + g) (omega arith)

past_of : (n m : ℕ) → nat_lt n m ≡ false → m ≤ n
past_of n m e = grind (arith, nat_tests)

-- what there is not holds 0 at the beginning too
absent_at : (p : Tables) → IsSound p → (w : Word) → is_word (plan_of p) w ≡ false → opening_words (plan_of p) w ≡ 0
absent_at p sound Arrive e = absurd cc
absent_at p sound OffIn e = refl
absent_at p sound Decide e = refl
absent_at p sound (Mode t) e = refl
absent_at p sound (Ctrl t) e = refl
absent_at p sound (Nmi t) e = refl
absent_at p sound (Rev g) e =
    let past = past_of g (plan_of p).groups e in
    ap (λ entry. unwrap_or entry 0) (slice_get_past p.rev0.items g (omega (arith, past, sound.tables.revisions)))
absent_at p sound (Res g) e = refl

pub opening_row_long : (plan : Plan) → length (opening_row plan) ≡ word_count plan
opening_row_long plan = length-map-range_with_len (opening_at plan) 0 (word_count plan)

words_begin_at : (p : Tables) → IsSound p → (w : Word) (b : Bool) → is_word (plan_of p) w ≡ b → (if b then slice_index (opening_row (plan_of p)) (place_of (plan_of p) w) else 0) ≡ opening_words (plan_of p) w
words_begin_at p sound w true known =
    let plan = plan_of p in
    get_or-map-range_with_len (opening_at plan) 0 (word_count plan) (place_of plan w) (place_of plan w) 0 (place_below plan w known) (omega arith) ∙ value_at plan w known
words_begin_at p sound w false unknown = sym (absent_at p sound w unknown)

pub words_begin : (p : Tables) → IsSound p → words_of (plan_of p) (opening_row (plan_of p)) ≡ opening_words (plan_of p)
words_begin p sound = fun_ext (λ w. words_begin_at p sound w (is_word (plan_of p) w) refl)

-- The table begins by its rule.

begins_not_halted : {A : Type 0} (kind : Kind) → opening_phase kind ≡ Halted → A
begins_not_halted Online e = absurd cc
begins_not_halted Offline e = absurd cc
begins_not_halted Absent e = absurd cc

opens_not_halted : {A : Type 0} (plan : Plan) (u : ℕ) → (opening plan u).phase ≡ Halted → A
unfolding opening
opens_not_halted plan u e = begins_not_halted (plan.kind u) e

alone : (a b : View) (id : ℕ) → get_elem? (a ∷ []) id ≡ some b → (id ≡ 0) × (a ≡ b)
alone a b zero e = (refl, some-injective a b e)
alone a b (suc id) e = absurd (some-ne-none b (sym e))

pub opening_holds : (p : Tables) → IsSound p → Holds p (opening_table (opening_row (plan_of p)) [] (opening_view p))
opening_holds p sound =
    let plan = plan_of p in
    let first : Standing = opening_standing p 0 in
    let ok : SeatOk p (opening_view p ∷ []) (opening plan) 0 first =
    record { its_plan = refl; its_number = refl; its_local = refl; of_zero = λ z. (refl, refl) } in
    record {
      locals = opening plan;
      ruled = subst (λ (x : Word → ℕ). Rule plan (families x) (opening plan)) (sym (words_begin p sound)) (opening_is_ruled plan sound.sound (padded p sound));
      width = opening_row_long plan;
      few = sound.tables.some_thread;
      seats = λ id v e.
          (let at = alone (opening_view p) (Sits v) id e in
          subst (λ (k : ℕ). SeatOk p (opening_view p ∷ []) (opening plan) k v) (sym at.0)
          (subst (λ (x : Standing). SeatOk p (opening_view p ∷ []) (opening plan) 0 x) (cc) ok));
      not_given = λ u above. refl;
      joined = λ u e. sits_not_spent first (alone (opening_view p) Spent u e).1;
      drop_is_late = λ two. absurd (let none : words_of plan (opening_row plan) Decide ≡ 0 = ap (λ (f : Word → ℕ). f Decide) (words_begin p sound) in omega arith);
      halt_is_late = λ u e. opens_not_halted plan u e;
    }

-- a bay with a copy of the plan begins by its rule
pub copy_holds : (p q : Tables) (row : List ℕ) → IsCopy p q → IsSound p → row ≡ opening_row (plan_of p) → Holds q (opening_table row [] (opening_view q))
copy_holds p q row copy sound is =
    subst (λ (r : List ℕ). Holds q (opening_table r [] (opening_view q))) (sym (is ∙ ap opening_row (sym (copy_same p q copy)))) (opening_holds q (copy_sound p q copy sound))
