-- The law on every event: from a moment that meets the rule, where an NMI is latched only for a thread that came into
-- the handler, each event leads to one again, and its item is a step of the model between the states that these show.
use Rattle.std.specs.Prelude.{◌≡◌, ℕ, true}
use Rattle.rendezvous_steps.specs.declared.items.What.{What}
use Rattle.rendezvous_steps.specs.declared.items.Event.{Event}
use Rattle.rendezvous_steps.specs.Plan.{Plan, Sound}
use Rattle.rendezvous_steps.specs.Padded.{Padded}
use Rattle.rendezvous_steps.specs.Events.{Running, happens, opening_running}
use Rattle.rendezvous_model.specs.Round.{State}
use Rattle.rendezvous_model.specs.RoundStep.{Round}
use Rattle.rendezvous_rule.specs.Shown.{shown_by}
use Rattle.rendezvous_rule.specs.Knows.{has_come}
use Rattle.rule_laws.specs.Kept.{Ruled}

-- only for a thread that came into the handler an NMI is latched
abbrev pub Calm : State → Type 0
Calm s = (u : ℕ) → s.latched u ≡ true → has_come (s.place u) ≡ true

pub record Lawful (plan : Plan) (moment : Running) : Type 0 where
  pub ruled : Ruled plan moment
  pub calm : Calm (shown_by plan moment)

-- the moment after an event, and its item
pub record Led (plan : Plan) (event : Event) (before : Running) (after : Running × What) : Type 0 where
  pub lawful : Lawful plan after.0
  pub round : Round plan (shown_by plan before) event after.1 (shown_by plan after.0)

abbrev pub EventLaw : Type 0
EventLaw =
    (plan : Plan) (event : Event) (moment : Running) →
    Sound plan → Padded plan → Lawful plan moment → Led plan event moment (happens plan event moment)

abbrev pub OpeningIsLawful : Type 0
OpeningIsLawful = (plan : Plan) → Sound plan → Padded plan → Lawful plan (opening_running plan)
