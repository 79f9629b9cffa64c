use Rattle.play_laws.proofs.EachRun.{moments_are_lawful, runs_hold}
use Rattle.play_laws.proofs.runs.each_run_holds.Goals as goal

pub returns : goal.returns
returns c = record { moments = moments_are_lawful; runs = runs_hold }
