use Rattle.ctl_thread.proofs.Touched.{revision_stays}
use Rattle.ctl_thread.proofs.Leading.{as_primary}
use Rattle.ctl_thread.proofs.laws.writes_as_primary.Goals as goal

pub returns-clause-primary : goal.returns-clause-primary
returns-clause-primary c = as_primary

pub returns-clause-writing : goal.returns-clause-writing
returns-clause-writing c = revision_stays
