-- A step of a thread that has no operation.
use Rattle.std.proofs.Common.{◌≡◌, ℕ, true, false, None, refl, sym, true≢false}
use Rattle.rendezvous_steps.specs.declared.steps.Phase.{Phase}
use Rattle.rendezvous_steps.specs.declared.steps.Phase.TheVariants as phase
use Rattle.rendezvous_steps.specs.declared.steps.Local.{Local}
use Rattle.rendezvous_steps.specs.declared.steps.How.TheVariants.{Step}
use Rattle.rendezvous_steps.specs.declared.steps.Kind.TheVariants.{Offline}
use Rattle.rendezvous_steps.specs.Plan.{Plan}
use Rattle.rendezvous_steps.specs.StepTable.{operation}
use Rattle.rendezvous_steps.specs.Events.{Running, steps, runs_by}
use Rattle.ctl_core.specs.Moments.{rests}
use Rattle.ctl_core.proofs.Changes.{steps-operation}

by_phase : (plan : Plan) (t : ℕ) (local : Local) (p : Phase) → local.phase ≡ p → rests p ≡ true → operation plan t local Step ≡ None
unfolding operation
by_phase plan t local phase.Left is resting = rw is refl
by_phase plan t local phase.Halted is resting = rw is refl
by_phase plan t local phase.Withdrawn is resting = rw is refl
by_phase plan t local phase.Nothing is resting = rw is refl
by_phase plan t local p is resting = absurd (true≢false (sym resting))

-- at most a latched NMI comes through
pub rests_runs : (plan : Plan) (t : ℕ) (running : Running) → rests (running.locals t).phase ≡ true → steps plan t Step running ≡ runs_by Offline plan t running
rests_runs plan t running resting = steps-operation plan t Step running None (by_phase plan t (running.locals t) (running.locals t).phase refl resting)
