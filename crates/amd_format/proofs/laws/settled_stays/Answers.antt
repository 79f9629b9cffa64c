use Rattle.amd_format.proofs.Settled.{settled_stays}
use Rattle.amd_format.proofs.laws.settled_stays.Goals as goal

pub returns : goal.returns
returns c = settled_stays
