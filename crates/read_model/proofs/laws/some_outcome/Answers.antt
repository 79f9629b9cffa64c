use Rattle.read_model.proofs.Outcomes.{some_outcome}
use Rattle.read_model.proofs.laws.some_outcome.Goals as goal

pub returns : goal.returns
returns c = some_outcome
