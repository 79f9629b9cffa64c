use Rattle.session_laws.proofs.Refusals.{refusals_keep}
use Rattle.session_laws.proofs.a_refusal_changes_nothing.Goals as goal

pub returns : goal.returns
returns c = refusals_keep
