use Rattle.ctl_thread.proofs.Leading.{go, out}
use Rattle.ctl_thread.proofs.laws.leaves_the_gathering_by_the_decision.Goals as goal

pub returns-clause-go : goal.returns-clause-go
returns-clause-go c = go

pub returns-clause-out : goal.returns-clause-out
returns-clause-out c = out
