-- Runs of the model alone: what holds of their items and of the revisions.
use Rattle.std.specs.Prelude.{ℕ, ◌≤◌, List, length, take}
use Rattle.rendezvous_steps.specs.declared.items.Event.{Event}
use Rattle.rendezvous_steps.specs.declared.items.Item.{Item}
use Rattle.rendezvous_steps.specs.Plan.{Plan, Sound}
use Rattle.rendezvous_steps.specs.Padded.{Padded}
use Rattle.rendezvous_model.specs.Round.{State}
use Rattle.rendezvous_model.specs.Safe.{Safe}
use Rattle.rendezvous_model.specs.Run.{Run, NeverFalls}
use Rattle.rendezvous_model.specs.Excluded.{Excluded}

-- Where each state of a run is safe, no thread of a group runs ordinary code from the group's begin until its report,
-- over each front of the items: also where the schedule ends within the write.
abbrev pub SafeRunsExclude : Type 0
SafeRunsExclude =
    (plan : Plan) (events : List Event) (items : List Item) (states : ℕ → State) →
    Run plan events items states →
    ((k : ℕ) → k ≤ length items → Safe plan (states k)) →
    (k : ℕ) → Excluded plan (take k items)

-- No run lets a revision fall.
abbrev pub RunsNeverFall : Type 0
RunsNeverFall =
    (plan : Plan) (events : List Event) (items : List Item) (states : ℕ → State) →
    Sound plan → Padded plan → Run plan events items states → NeverFalls (length items) states
