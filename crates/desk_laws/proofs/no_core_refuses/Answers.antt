use Rattle.desk_laws.proofs.Refusals.{none_refuses}
use Rattle.desk_laws.proofs.no_core_refuses.Goals as goal

pub returns : goal.returns
returns c = none_refuses
