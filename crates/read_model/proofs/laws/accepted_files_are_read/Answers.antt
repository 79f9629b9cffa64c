use Rattle.read_model.proofs.Outcomes.{all_or_not_read}
use Rattle.read_model.proofs.laws.accepted_files_are_read.Goals as goal

pub returns : goal.returns
returns c = all_or_not_read
