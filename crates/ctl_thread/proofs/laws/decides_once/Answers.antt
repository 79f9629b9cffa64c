use Rattle.ctl_thread.proofs.Touched.{decision_stays, decision_made}
use Rattle.ctl_thread.proofs.laws.decides_once.Goals as goal

pub returns-clause-stays : goal.returns-clause-stays
returns-clause-stays c = decision_stays

pub returns-clause-made : goal.returns-clause-made
returns-clause-made c = decision_made
