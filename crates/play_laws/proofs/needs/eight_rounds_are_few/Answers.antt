use Rattle.play_laws.proofs.Lacking as lacking
use Rattle.play_laws.proofs.needs.eight_rounds_are_few.Goals as goal

pub returns : goal.returns
returns c = lacking.eight_rounds_are_few
