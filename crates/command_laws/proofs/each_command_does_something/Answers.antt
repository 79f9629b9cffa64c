use Rattle.command_laws.proofs.Steps.{steps_exist, sessions_exist}
use Rattle.command_laws.proofs.each_command_does_something.Goals as goal

pub returns-clause-step : goal.returns-clause-step
returns-clause-step c = steps_exist c.the_verdict_is_the_first_that_holds.ensures.holds c.each_plan_is_sound.ensures

pub returns-clause-session : goal.returns-clause-session
returns-clause-session c =
    sessions_exist (steps_exist c.the_verdict_is_the_first_that_holds.ensures.holds c.each_plan_is_sound.ensures)
    c.each_state_stands.ensures.steps
