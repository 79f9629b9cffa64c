use Rattle.sleep_laws.proofs.Asleep.{suspends_sleep, sleep_goes_on, resumes_bring_back}
use Rattle.sleep_laws.proofs.Cold.{cold_groups_catch_up}
use Rattle.sleep_laws.proofs.a_resume_brings_back.Goals as goal

pub returns-clause-suspend : goal.returns-clause-suspend
returns-clause-suspend c = suspends_sleep

pub returns-clause-asleep : goal.returns-clause-asleep
returns-clause-asleep c = sleep_goes_on

pub returns-clause-resume : goal.returns-clause-resume
returns-clause-resume c =
    resumes_bring_back c.each_event_keeps_the_rule.ensures.event c.each_event_keeps_the_rule.ensures.opening
    c.each_offer_is_lent.ensures.load c.each_state_stands.ensures.opening c.each_state_stands.ensures.steps

pub returns-clause-cold : goal.returns-clause-cold
returns-clause-cold c =
    cold_groups_catch_up c.each_event_keeps_the_rule.ensures.event c.each_event_keeps_the_rule.ensures.opening
    c.each_offer_is_lent.ensures.load c.each_state_stands.ensures.opening c.each_state_stands.ensures.steps
