-- Thread 0's post takes in one that has ended, and the rule of the table is kept.
use Rattle.std.proofs.Common.{◌≡◌, ◌≢◌, ℕ, ◌+◌, ◌≤◌, Bool, true, false, ◌||◌, List, length, IsTrue, slice_set, refl, sym, ap, subst, ◌∙◌, inl, inr, arith, length-set}
use mathlib.Core.Option.{some}
use lib.ListN.{get_elem?}
use Rattle.atomic_table.specs.Table.{Joins}
use Rattle.atomic_table.proofs.Lists.{at_set, set_here, set_else}
use Rattle.rendezvous_steps.specs.declared.steps.Local.{Local}
use Rattle.rendezvous_steps.specs.StepTable.{is_last}
use Rattle.ctl_words.specs.declared.plans.Plan.{Plan as Tables}
use Rattle.ctl_words.specs.Plans.{IsSound}
use Rattle.ctl_table.specs.declared.standings.Standing.{Standing}
use Rattle.ctl_table.specs.declared.standings.View.{View}
use Rattle.ctl_table.specs.declared.standings.View.TheVariants.{Spent, Sits}
use Rattle.ctl_table.specs.Standings.{one_more, took, joined_view, spent_count}
use Rattle.ctl_table.specs.Holds.{Desk, Holds, SeatOk, HasLate}
use Rattle.ctl_table.proofs.Sitting.{found_below, one_view, sits_after, spent_before, sits_not_spent, count_kept, count_spent, count_two, same_or_not}

late_left : (a b : Bool) → a ≡ true → (a || b) ≡ true
late_left a b e = rw e refl

late_right : (a b : Bool) → b ≡ true → (a || b) ≡ true
late_right true b e = refl
late_right false b e = e

counted : (n m : ℕ) → n + 2 ≤ m → m ≤ 256 → n + 1 ≡ one_more n
counted n m below few = omega arith

module _ (plan : Tables) (sound : IsSound plan) (id : ℕ) (v : Standing) (other : ℕ) (w : Standing) (first : v.thread ≡ 0) (ended : IsTrue (is_last w.local.phase)) (s : Desk) (held : Holds plan s) (there : get_elem? s.views id ≡ some (Sits v)) (apart : other ≢ id) (theirs : get_elem? (slice_set s.views id (Sits (took v w))) other ≡ some (Sits w)) where
  abbrev seat : SeatOk plan s.views held.locals id v
  seat = held.seats id v there

  abbrev changed : List View
  changed = slice_set s.views id (Sits (took v w))

  abbrev joined : List View
  joined = slice_set changed other Spent

  at_zero : id ≡ 0
  at_zero = sym seat.its_number ∙ first

  was : get_elem? s.views other ≡ some (Sits w)
  was = sym (set_else s.views id other (Sits (took v w)) apart) ∙ theirs

  -- thread 0's place has this view now
  mine : get_elem? joined id ≡ some (Sits (took v w))
  mine = set_else changed other id Spent (λ e. apart (sym e)) ∙ set_here s.views id (Sits (took v w)) (found_below s.views id (Sits v) there)

  long : length joined ≡ length s.views
  long = length-set changed other Spent ∙ length-set s.views id (Sits (took v w))

  count : spent_count joined ≡ one_more v.joined
  count =
      let two = count_two s.views id other v w apart there was in
      let few = held.few in
      let most = sound.tables.few_threads in
      let had : spent_count s.views ≡ v.joined = (seat.of_zero at_zero).1 in
      count_spent changed other w theirs ∙ ap (λ n. n + 1) (count_kept s.views id v (took v w) there)
      ∙ counted (spent_count s.views) (length s.views) two (omega arith)
      ∙ ap one_more had

  takes : SeatOk plan joined held.locals id (took v w)
  takes =
      record {
        its_plan = seat.its_plan;
        its_number = seat.its_number;
        its_local = seat.its_local;
        of_zero = λ z. (long ∙ (seat.of_zero z).0, count);
      }

  seats : (j : ℕ) (x : Standing) → get_elem? joined j ≡ some (Sits x) → SeatOk plan joined held.locals j x
  seats j x e =
      elim (at_set changed other j Spent (Sits x) e) [
        | inl same ↦ sits_not_spent x (sym same.1)
        | inr kept ↦ elim (sits_after s.views id j (took v w) x kept.1) [
          | inl same ↦ subst (λ (k : ℕ). SeatOk plan joined held.locals k x) (sym same.0) (subst (λ (y : Standing). SeatOk plan joined held.locals id y) same.1 takes)
          | inr third ↦ (
              let had = held.seats j x third.1 in
              record {
                its_plan = had.its_plan;
                its_number = had.its_number;
                its_local = had.its_local;
                of_zero = λ z. absurd (third.0 (z ∙ sym at_zero));
              })
        ]
      ]

  spent : (u : ℕ) → get_elem? joined u ≡ some Spent → IsTrue (is_last (held.locals u).phase)
  spent u e =
      elim (at_set changed other u Spent Spent e) [
        | inl same ↦ (
            let theirs_is = (held.seats other w was).its_local in
            subst (λ (l : Local). IsTrue (is_last l.phase)) (theirs_is ∙ ap held.locals (sym same.0)) ended)
        | inr kept ↦ held.joined u (spent_before s.views id u (took v w) kept.1).1
      ]

  late : HasLate s.views → HasLate joined
  late had =
      elim (same_or_not had.id id) [
        | inl same ↦ (
            let at : get_elem? s.views id ≡ some (Sits had.standing) = subst (λ (k : ℕ). get_elem? s.views k ≡ some (Sits had.standing)) same had.sits in
            let is : v.late ≡ true = subst (λ (x : Standing). x.late ≡ true) (one_view s.views id had.standing v at there) had.is_late in
            record { id = id; standing = took v w; sits = mine; is_late = late_left v.late w.late is })
        | inr not_zero ↦ elim (same_or_not had.id other) [
          | inl same ↦ (
              let at : get_elem? s.views other ≡ some (Sits had.standing) = subst (λ (k : ℕ). get_elem? s.views k ≡ some (Sits had.standing)) same had.sits in
              let is : w.late ≡ true = subst (λ (x : Standing). x.late ≡ true) (one_view s.views other had.standing w at was) had.is_late in
              record { id = id; standing = took v w; sits = mine; is_late = late_right v.late w.late is })
          | inr third ↦ record {
            id = had.id;
            standing = had.standing;
            sits = set_else changed other had.id Spent third ∙ set_else s.views id had.id (Sits (took v w)) not_zero ∙ had.sits;
            is_late = had.is_late;
          }
        ]
      ]

  joins : Holds plan record { words = s.words; homes = s.homes; views = joined }
  joins =
      let same = long in
      let had = held.few in
      record {
        locals = held.locals;
        ruled = held.ruled;
        width = held.width;
        few = omega arith;
        seats = seats;
        not_given = λ u above. held.not_given u (omega arith);
        joined = spent;
        drop_is_late = λ two. late (held.drop_is_late two);
        halt_is_late = λ u halted. late (held.halt_is_late u halted);
      }

pub join_kept : (plan : Tables) (id : ℕ) (view : View) (v : Standing) (other : ℕ) (theirs : View) (w : Standing) → IsSound plan → view ≡ Sits v → theirs ≡ Sits w → v.thread ≡ 0 → IsTrue (is_last w.local.phase) → Joins (Holds plan) id view other theirs (joined_view view theirs) Spent
join_kept plan id view v other theirs w sound is their first ended =
    subst (λ (x : View). Joins (Holds plan) id x other theirs (joined_view x theirs) Spent) (sym is)
    (subst (λ (y : View). Joins (Holds plan) id (Sits v) other y (joined_view (Sits v) y) Spent) (sym their)
    (λ s held there apart at. joins plan sound id v other w first ended s held there apart at))
