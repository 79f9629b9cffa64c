use Rattle.play_laws.proofs.Exist.{ran_grows}
use Rattle.play_laws.proofs.runs.a_run_lowers_no_revision.Goals as goal

pub returns : goal.returns
returns c = ran_grows
