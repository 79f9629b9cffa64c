use Rattle.ctl_core.proofs.Determined.{enough_finish}
use Rattle.ctl_core.proofs.laws.enough_rounds_finish.Goals as goal

pub returns : goal.returns
returns c = enough_finish
