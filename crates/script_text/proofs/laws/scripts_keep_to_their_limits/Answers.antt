use Rattle.script_text.proofs.Kept.{within}
use Rattle.script_text.proofs.laws.scripts_keep_to_their_limits.Goals as goal

pub returns : goal.returns
returns c = within
