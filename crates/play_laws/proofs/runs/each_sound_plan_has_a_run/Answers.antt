use Rattle.play_laws.proofs.Exist.{always_runs}
use Rattle.play_laws.proofs.runs.each_sound_plan_has_a_run.Goals as goal

pub returns : goal.returns
returns c = always_runs
