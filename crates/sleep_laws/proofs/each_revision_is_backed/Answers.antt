use Rattle.sleep_laws.proofs.Backed.{states_are_backed}
use Rattle.sleep_laws.proofs.each_revision_is_backed.Goals as goal

pub returns : goal.returns
returns c =
    states_are_backed c.each_event_keeps_the_rule.ensures.event c.each_event_keeps_the_rule.ensures.opening
    c.each_offer_is_lent.ensures.load c.each_state_stands.ensures.opening c.each_state_stands.ensures.steps
