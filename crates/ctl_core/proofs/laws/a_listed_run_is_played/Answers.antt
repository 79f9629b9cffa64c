use Rattle.ctl_core.proofs.Determined.{listed_is_played}
use Rattle.ctl_core.proofs.laws.a_listed_run_is_played.Goals as goal

pub returns : goal.returns
returns c = listed_is_played
