use Rattle.session_laws.proofs.Revisions.{never_falls}
use Rattle.session_laws.proofs.only_a_suspend_lets_a_revision_fall.Goals as goal

pub returns : goal.returns
returns c = never_falls c.only_suspend_lets_a_revision_fall.ensures.bring_ups
