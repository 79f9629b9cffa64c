use Rattle.run_laws.proofs.SafeRuns.{safe_runs_exclude}
use Rattle.run_laws.proofs.safety.a_safe_run_excludes.Goals as goal

pub returns : goal.returns
returns c = safe_runs_exclude
