use Rattle.cut_laws.proofs.Going.{begun_goes_on}
use Rattle.cut_laws.proofs.begun_commands_go_on.Goals as goal

pub returns : goal.returns
returns c =
    begun_goes_on c.each_command_does_something.ensures.session c.each_state_stands.ensures.opening
    c.each_state_stands.ensures.steps
