use Rattle.machine_steps.proofs.Revisions.{bring_up_each_keeps}
use Rattle.machine_steps.proofs.laws.only_suspend_lets_a_revision_fall.Goals as goal

pub returns-clause-bring_ups : goal.returns-clause-bring_ups
returns-clause-bring_ups c = bring_up_each_keeps
