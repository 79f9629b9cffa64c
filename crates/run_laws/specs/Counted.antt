-- How many items count in a run, by the step table alone.
use Rattle.std.specs.Prelude.{◌≡◌, ◌≢◌, ℕ, ◌+◌, ◌*◌, ◌<◌, ◌≤◌, Bool, List, count_by, if◌then◌else◌}
use Rattle.rendezvous_steps.specs.declared.items.What.{What}
use Rattle.rendezvous_steps.specs.declared.items.Event.{Event}
use Rattle.rendezvous_steps.specs.declared.items.Item.{Item}
use Rattle.rendezvous_steps.specs.Plan.{Plan}
use Rattle.rendezvous_steps.specs.Padded.{Padded}
use Rattle.rendezvous_steps.specs.Events.{Running, happens, opening_running}
use Rattle.rendezvous_model.specs.RoundStep.{thread_of}
use Rattle.rendezvous_model.specs.Run.{FewInner}
use Rattle.play_steps.specs.Play.{play}
use Rattle.play_steps.specs.Rank.{is_counted, weight, rank, all_ranks}

-- An event lowers the rank of its thread by what its item counts, and leaves the other threads where they stand.
pub record Falls (all : Bool) (plan : Plan) (t : ℕ) (before : Running) (after : Running × What) : Type 0 where
  pub own : weight all after.1 + rank all plan t (after.0.locals t) ≤ rank all plan t (before.locals t)
  pub others : (u : ℕ) → u ≢ t → after.0.locals u ≡ before.locals u

abbrev pub RanksFall : Type 0
RanksFall =
    (all : Bool) (plan : Plan) (event : Event) (moment : Running) →
    Falls all plan (thread_of event) moment (happens plan event moment)

-- of all threads together
abbrev pub AllRanksFall : Type 0
AllRanksFall =
    (plan : Plan) (event : Event) (moment : Running) →
    thread_of event < plan.threads →
    (if is_counted (happens plan event moment).1 then 1 else 0) + all_ranks plan (happens plan event moment).0.locals
    ≤ all_ranks plan moment.locals

-- and they are not many when a rendezvous begins
abbrev pub FirstRanks : Type 0
FirstRanks = (plan : Plan) → all_ranks plan (opening_running plan).locals ≤ 20 * plan.threads + 8

-- So no thread makes many steps inside that nobody else sees,
abbrev pub FewInnerItems : Type 0
FewInnerItems = (plan : Plan) (events : List Event) → FewInner plan (play plan (opening_running plan) events)

-- and not many items of a run count
abbrev pub count_of : List Item → ℕ
count_of items = count_by (λ item. is_counted item.what) items

abbrev pub FewCounted : Type 0
FewCounted =
    (plan : Plan) (events : List Event) →
    Padded plan → count_of (play plan (opening_running plan) events) ≤ 20 * plan.threads + 8
