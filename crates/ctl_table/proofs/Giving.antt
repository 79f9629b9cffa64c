-- Thread 0's post gives the next thread its post, and the rule of the table is kept.
use Rattle.std.proofs.Common.{◌≡◌, ℕ, ◌+◌, ◌<◌, List, [], ◌∷◌, ◌++◌, length, slice_set, sym, ap, subst, ◌∙◌, inl, inr, arith, length-set, length-append}
use mathlib.Core.Option.{some}
use lib.ListN.{get_elem?}
use Rattle.atomic_table.specs.Table.{Splits}
use Rattle.rendezvous_steps.specs.StepTable.{opening}
use Rattle.ctl_words.specs.declared.plans.Plan.{Plan as Tables}
use Rattle.ctl_words.specs.Plans.{plan_of}
use Rattle.ctl_table.specs.declared.standings.Standing.{Standing}
use Rattle.ctl_table.specs.declared.standings.View.{View}
use Rattle.ctl_table.specs.declared.standings.View.TheVariants.{Spent, Sits}
use Rattle.ctl_table.specs.Standings.{opening_standing, gave, left_of, right_of}
use Rattle.ctl_table.specs.Holds.{Desk, Holds, SeatOk}
use Rattle.ctl_table.proofs.Sitting.{found_longer, sits_after, spent_before, sits_not_spent, count_kept, count_longer, late_kept, late_longer}

module _ (plan : Tables) (id : ℕ) (v : Standing) (first : v.thread ≡ 0) (room : v.given + 1 < plan.threads) (s : Desk) (held : Holds plan s) (there : get_elem? s.views id ≡ some (Sits v)) where
  abbrev seat : SeatOk plan s.views held.locals id v
  seat = held.seats id v there

  abbrev new : Standing
  new = opening_standing v.plan (v.given + 1)

  abbrev changed : List View
  changed = slice_set s.views id (Sits (gave v))

  abbrev longer : List View
  longer = changed ++ Sits new ∷ []

  at_zero : id ≡ 0
  at_zero = sym seat.its_number ∙ first

  long : length s.views ≡ v.given + 1
  long = (seat.of_zero at_zero).0

  changed_long : length changed ≡ v.given + 1
  changed_long = length-set s.views id (Sits (gave v)) ∙ long

  longer_long : length longer ≡ v.given + 1 + 1
  longer_long = let both = length-append changed (Sits new ∷ []) in let one = changed_long in omega arith

  gives : SeatOk plan longer held.locals id (gave v)
  gives =
      record {
        its_plan = seat.its_plan;
        its_number = seat.its_number;
        its_local = seat.its_local;
        of_zero = λ z. (longer_long, count_longer changed new ∙ count_kept s.views id v (gave v) there ∙ (seat.of_zero z).1);
      }

  begins : SeatOk plan longer held.locals (length changed) new
  begins =
      let same = changed_long in
      let before = long in
      record {
        its_plan = seat.its_plan;
        its_number = sym changed_long;
        its_local = ap (λ (q : Tables). opening (plan_of q) (v.given + 1)) seat.its_plan ∙ ap (opening (plan_of plan)) (sym changed_long) ∙ sym (held.not_given (length changed) (omega arith));
        of_zero = λ z. absurd (omega arith);
      }

  seats : (j : ℕ) (w : Standing) → get_elem? longer j ≡ some (Sits w) → SeatOk plan longer held.locals j w
  seats j w e =
      elim (found_longer changed (Sits new) (Sits w) j e) [
        | inl was ↦ elim (sits_after s.views id j (gave v) w was) [
          | inl same ↦ subst (λ (k : ℕ). SeatOk plan longer held.locals k w) (sym same.0) (subst (λ (x : Standing). SeatOk plan longer held.locals id x) same.1 gives)
          | inr other ↦ (
              let had = held.seats j w other.1 in
              record {
                its_plan = had.its_plan;
                its_number = had.its_number;
                its_local = had.its_local;
                of_zero = λ z. absurd (other.0 (z ∙ sym at_zero));
              })
        ]
        | inr last ↦ subst (λ (k : ℕ). SeatOk plan longer held.locals k w) (sym last.0)
            (subst (λ (x : Standing). SeatOk plan longer held.locals (length changed) x) (cc) begins)
      ]

  given : Holds plan record { words = s.words; homes = s.homes; views = longer }
  given =
      let long' = longer_long in
      let before = long in
      record {
        locals = held.locals;
        ruled = held.ruled;
        width = held.width;
        few = omega arith;
        seats = seats;
        not_given = λ u above. held.not_given u (omega arith);
        joined = λ u e. elim (found_longer changed (Sits new) Spent u e) [
          | inl was ↦ held.joined u (spent_before s.views id u (gave v) was).1
          | inr last ↦ sits_not_spent new last.1
        ];
        drop_is_late = λ two. late_longer changed (Sits new ∷ []) (late_kept s.views id v (gave v) there (λ e. e) (held.drop_is_late two));
        halt_is_late = λ u halted. late_longer changed (Sits new ∷ []) (late_kept s.views id v (gave v) there (λ e. e) (held.halt_is_late u halted));
      }

pub split_kept : (plan : Tables) (id : ℕ) (view : View) (v : Standing) → view ≡ Sits v → v.thread ≡ 0 → v.given + 1 < plan.threads → Splits (Holds plan) id view (left_of view) (right_of view)
split_kept plan id view v is first room =
    subst (λ (x : View). Splits (Holds plan) id x (left_of x) (right_of x)) (sym is) (λ s held there. given plan id v first room s held there)
