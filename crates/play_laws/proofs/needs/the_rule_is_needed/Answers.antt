use Rattle.play_laws.proofs.Lacking.{rule_for_safety, rule_to_get_on, calm_is_needed}
use Rattle.play_laws.proofs.needs.the_rule_is_needed.Goals as goal

pub returns : goal.returns
returns c = record { safety = rule_for_safety; getting_on = rule_to_get_on; latches = calm_is_needed }
