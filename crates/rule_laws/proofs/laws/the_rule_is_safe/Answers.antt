use Rattle.rule_laws.proofs.Safety.{ruled_is_safe}
use Rattle.rule_laws.proofs.laws.the_rule_is_safe.Goals as goal

pub returns : goal.returns
returns c = ruled_is_safe
