use Rattle.round_laws.proofs.Law.{step_law}
use Rattle.round_laws.proofs.laws.each_step_keeps_the_rule.Goals as goal

pub returns : goal.returns
returns c = step_law
