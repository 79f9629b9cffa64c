use Rattle.ctl_thread.proofs.Leading.{quiet}
use Rattle.ctl_thread.proofs.laws.steps_never_give_up.Goals as goal

pub returns : goal.returns
returns c = quiet
