use Rattle.rule_laws.proofs.Opening.{opening_is_ruled, opening_is_shown}
use Rattle.rule_laws.proofs.laws.opening_keeps_the_rule.Goals as goal

pub returns : goal.returns
returns c = record { ruled = opening_is_ruled; shown = opening_is_shown }
