-- The law on one step, of a moment.
use Rattle.std.proofs.Common.{◌≡◌, ℕ, true, Some, refl, sym, subst}
use Rattle.rendezvous_steps.specs.declared.steps.How.{How}
use Rattle.rendezvous_steps.specs.declared.operations.Op.{Op}
use Rattle.rendezvous_steps.specs.Plan.{Plan, Sound}
use Rattle.rendezvous_steps.specs.Padded.{Padded}
use Rattle.rendezvous_steps.specs.Words.{touched}
use Rattle.rendezvous_steps.specs.StepTable.{operation, after}
use Rattle.rendezvous_steps.specs.Events.{Running, steps}
use Rattle.rule_laws.specs.Kept.{Ruled, Kept, event_of, is_step}
use Rattle.rule_laws.proofs.Step.{stepped}
use Rattle.round_laws.proofs.Law.{step_law}

-- a thread's operation keeps the rule, and its item is a step of the model
pub moment_step :
    (plan : Plan) (moment : Running) (t : ℕ) (h : How) (op : Op) →
    Sound plan → Padded plan → Ruled plan moment → is_step h ≡ true →
    operation plan t (moment.locals t) h ≡ Some op → Kept plan (event_of h t) moment (steps plan t h moment)
moment_step plan moment t h op sound padded ruled own e =
    let found = moment.words (touched op) in
    let next = after plan t (moment.locals t) h found in
    let law = step_law plan moment.words moment.locals moment.latched t (moment.locals t) h op found sound padded
    ruled own refl e refl in
    subst (λ x. Kept plan (event_of h t) moment x)
    (sym (stepped plan t h moment op (moment.locals t) next refl e refl))
    (record { rule = law.0; round = law.1 })
