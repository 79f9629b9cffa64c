-- What holds of a whole run: for every list of events, from the opening of the rendezvous.
use Rattle.std.specs.Prelude.{ℕ, ◌+◌, ◌*◌, ◌≤◌, List, length, take}
use Rattle.rendezvous_steps.specs.declared.items.Event.{Event}
use Rattle.rendezvous_steps.specs.declared.items.Item.{Item}
use Rattle.rendezvous_steps.specs.Plan.{Plan, Sound}
use Rattle.rendezvous_steps.specs.Padded.{Padded}
use Rattle.rendezvous_steps.specs.Events.{opening_running}
use Rattle.rendezvous_model.specs.Round.{State}
use Rattle.rendezvous_model.specs.Safe.{Safe}
use Rattle.rendezvous_model.specs.Run.{Run, FewInner, NeverFalls}
use Rattle.rendezvous_model.specs.Excluded.{Excluded}
use Rattle.rendezvous_rule.specs.Shown.{shown_by}
use Rattle.play_steps.specs.Play.{play, moment_at}
use Rattle.run_laws.specs.Counted.{count_of}
use Rattle.play_laws.specs.Lawful.{Lawful}

-- the items of a schedule, and the state after the first k of its events
abbrev pub items_of : Plan → List Event → List Item
items_of plan events = play plan (opening_running plan) events

abbrev pub state_at : Plan → List Event → ℕ → State
state_at plan events k = shown_by plan (moment_at plan (opening_running plan) events k)

pub record RunHolds (plan : Plan) (events : List Event) : Type 0 where
  -- the items answer the events in the model, through the states that are shown
  pub run : Run plan events (items_of plan events) (state_at plan events)
  pub few_inner : FewInner plan (items_of plan events)
  pub few_counted : count_of (items_of plan events) ≤ 20 * plan.threads + 8
  -- each of these states is safe
  pub safe : (k : ℕ) → Safe plan (state_at plan events k)
  -- no ordinary code runs in a group while it is written, over each front of the items
  pub excluded : (k : ℕ) → Excluded plan (take k (items_of plan events))
  pub never_falls : NeverFalls (length (items_of plan events)) (state_at plan events)

abbrev pub RunsHold : Type 0
RunsHold = (plan : Plan) (events : List Event) → Sound plan → Padded plan → RunHolds plan events

-- each moment of a run meets the rule
abbrev pub MomentsAreLawful : Type 0
MomentsAreLawful =
    (plan : Plan) (events : List Event) (k : ℕ) →
    Sound plan → Padded plan → Lawful plan (moment_at plan (opening_running plan) events k)
