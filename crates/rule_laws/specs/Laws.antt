-- Laws of the rule between steps.
use Rattle.std.specs.Prelude.{◌≡◌}
use Rattle.rendezvous_steps.specs.Plan.{Plan, Sound}
use Rattle.rendezvous_steps.specs.Padded.{Padded}
use Rattle.rendezvous_steps.specs.Words.{families}
use Rattle.rendezvous_steps.specs.Events.{Running, opening_running}
use Rattle.rendezvous_model.specs.Round.{State, opening_state}
use Rattle.rendezvous_model.specs.Safe.{Safe}
use Rattle.rendezvous_rule.specs.Shown.{Shows, shown_by}
use Rattle.rule_laws.specs.Kept.{Ruled}

-- the rule holds when a rendezvous begins, and what stands there shows the model's opening
abbrev pub OpeningIsRuled : Type 0
OpeningIsRuled = (plan : Plan) → Sound plan → Padded plan → Ruled plan (opening_running plan)

abbrev pub OpeningIsShown : Type 0
OpeningIsShown = (plan : Plan) → Sound plan → Padded plan → shown_by plan (opening_running plan) ≡ opening_state plan

-- a moment with the rule shows a state
abbrev pub RuledShows : Type 0
RuledShows =
    (plan : Plan) (moment : Running) →
    Sound plan →
    Padded plan → Ruled plan moment →
    Shows plan (families moment.words) moment.locals moment.latched (shown_by plan moment)

-- and only one
abbrev pub ShowsOne : Type 0
ShowsOne =
    (plan : Plan) (moment : Running) (a b : State) →
    Shows plan (families moment.words) moment.locals moment.latched a →
    Shows plan (families moment.words) moment.locals moment.latched b → a ≡ b

-- a state that a moment with the rule shows is safe
abbrev pub RuledIsSafe : Type 0
RuledIsSafe =
    (plan : Plan) (moment : Running) → Sound plan → Padded plan → Ruled plan moment → Safe plan (shown_by plan moment)
