use Rattle.command_laws.proofs.Left.{loads_leave}
use Rattle.command_laws.proofs.what_a_load_leaves.Goals as goal

pub returns : goal.returns
returns c = loads_leave c.each_event_keeps_the_rule.ensures.event c.each_event_keeps_the_rule.ensures.opening
