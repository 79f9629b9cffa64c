-- Runs of the model over the events of a schedule, with one item for each event until no thread is unfinished.
use Rattle.std.specs.Prelude.{◌≡◌, ◌⊎◌, ℕ, ◌+◌, ◌*◌, ◌<◌, ◌≤◌, Bool, true, false, ◌&&◌, ◌==◌, List, length, Some}
use Rattle.std.specs.Prelude.{slice_get, count_by}
use Rattle.rendezvous_steps.specs.declared.items.What.{What}
use Rattle.rendezvous_steps.specs.declared.items.What.TheVariants as what
use Rattle.rendezvous_steps.specs.declared.items.Event.{Event}
use Rattle.rendezvous_steps.specs.declared.items.Item.{Item}
use Rattle.rendezvous_steps.specs.Plan.{Plan}
use Rattle.rendezvous_model.specs.Round.{State, opening_state, unfinished_count}
use Rattle.rendezvous_model.specs.RoundStep.{Round, thread_of}

-- An item, and the event that it answers, between the state before and the state after. Some thread was unfinished
-- before.
pub record Answered (plan : Plan) (event : Event) (item : Item) (before after : State) : Type 0 where
  pub of_its_thread : item.thread ≡ thread_of event
  pub goes_on : 0 < unfinished_count plan before
  pub step : Round plan before event item.what after

-- The items answer the events in order, from the opening state through these states. They end at the first state in
-- which no thread is unfinished, or with the events.
pub record Run (plan : Plan) (events : List Event) (items : List Item) (states : ℕ → State) : Type 0 where
  pub opens : states 0 ≡ opening_state plan
  pub no_more : length items ≤ length events
  pub answers :
      (k : ℕ) (event : Event) (item : Item) →
      slice_get events k ≡ Some event →
      slice_get items k ≡ Some item → Answered plan event item (states k) (states (k + 1))
  pub ends : (unfinished_count plan (states (length items)) ≡ 0) ⊎ (length items ≡ length events)

-- a step inside the handler of this thread
abbrev pub is_inner : What → Bool
is_inner what.Inner = true
is_inner item = false

abbrev pub is_inner_of : ℕ → Item → Bool
is_inner_of t item = (item.thread == t) && is_inner item.what

-- no thread makes many steps that nobody else sees
abbrev pub FewInner : Plan → List Item → Type 0
FewInner plan items = (t : ℕ) → count_by (is_inner_of t) items ≤ 2 * plan.threads + 8

-- The items are those of a run over the events.
pub record Answers (plan : Plan) (events : List Event) (items : List Item) : Type 0 where
  pub states : ℕ → State
  pub run : Run plan events items states
  pub few_inner : FewInner plan items

-- From each of the first states to the next no group's revision falls.
abbrev pub NeverFalls : ℕ → (ℕ → State) → Type 0
NeverFalls steps states = (k g : ℕ) → k < steps → (states k).revision g ≤ (states (k + 1)).revision g
