use Rattle.run_laws.proofs.SafeRuns.{runs_never_fall}
use Rattle.run_laws.proofs.safety.a_run_never_falls.Goals as goal

pub returns : goal.returns
returns c = runs_never_fall
