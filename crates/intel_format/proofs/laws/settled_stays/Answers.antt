use Rattle.intel_format.proofs.Settled.{settled_stays}
use Rattle.intel_format.proofs.laws.settled_stays.Goals as goal

pub returns : goal.returns
returns c = settled_stays
