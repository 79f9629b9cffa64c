use Rattle.ctl_thread.proofs.Patient.{step_drops_not, step_halts_not}
use Rattle.ctl_thread.proofs.timeouts.only_timeouts_drop_and_halt.Goals as goal

pub returns-clause-drops : goal.returns-clause-drops
returns-clause-drops c = step_drops_not

pub returns-clause-halts : goal.returns-clause-halts
returns-clause-halts c = step_halts_not
