-- What is proved of each kind of step.
use Rattle.std.specs.Prelude.{◌≡◌, ℕ}
use Rattle.rendezvous_steps.specs.declared.steps.Phase.{Phase}
use Rattle.rendezvous_steps.specs.declared.steps.How.{How}
use Rattle.rendezvous_steps.specs.Plan.{Plan, Sound}
use Rattle.rendezvous_steps.specs.Padded.{Padded}
use Rattle.rendezvous_steps.specs.Events.{Running, steps}
use Rattle.rule_laws.specs.Kept.{Ruled, Kept, event_of}

-- Each step of this kind by a thread in this phase keeps the rule.
unfoldable pub KeepsTheRule : Phase → How → Type 0
KeepsTheRule at h =
    (plan : Plan) (moment : Running) (t : ℕ) →
    Sound plan →
    Padded plan →
    Ruled plan moment → (moment.locals t).phase ≡ at → Kept plan (event_of h t) moment (steps plan t h moment)
