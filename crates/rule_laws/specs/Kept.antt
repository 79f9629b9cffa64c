-- What a step has to keep: the rule, and that its item is a step of the model between the states that are shown.
use Rattle.std.specs.Prelude.{ℕ, Bool, true, false}
use Rattle.rendezvous_steps.specs.declared.steps.How.{How}
use Rattle.rendezvous_steps.specs.declared.steps.How.TheVariants as how
use Rattle.rendezvous_steps.specs.declared.items.What.{What}
use Rattle.rendezvous_steps.specs.declared.items.Event.{Event}
use Rattle.rendezvous_steps.specs.declared.items.Event.TheVariants as event
use Rattle.rendezvous_steps.specs.Plan.{Plan}
use Rattle.rendezvous_steps.specs.Words.{families}
use Rattle.rendezvous_steps.specs.Events.{Running}
use Rattle.rendezvous_model.specs.RoundStep.{Round}
use Rattle.rendezvous_rule.specs.Shown.{shown_by}
use Rattle.rendezvous_rule.specs.Rule.{Rule}

-- The rule of a moment.
abbrev pub Ruled : Plan → Running → Type 0
Ruled plan moment = Rule plan (families moment.words) moment.locals

-- A moment and an item after an event: the rule holds, and the item is a step of the model.
pub record Kept (plan : Plan) (happened : Event) (before : Running) (after : Running × What) : Type 0 where
  pub rule : Ruled plan after.0
  pub round : Round plan (shown_by plan before) happened after.1 (shown_by plan after.0)

-- what an event of a step's kind is
abbrev pub event_of : How → ℕ → Event
event_of how.Step t = event.Step t
event_of how.Timeout t = event.Timeout t
event_of how.Nmi t = event.Nmi t

-- a step or a timeout, and no NMI
abbrev pub is_step : How → Bool
is_step how.Step = true
is_step how.Timeout = true
is_step how.Nmi = false
