use Rattle.tool_laws.proofs.SomePlay.{play_text, gen_text}
use Rattle.tool_laws.proofs.some_session_text.Goals as goal

pub returns-clause-played : goal.returns-clause-played
returns-clause-played c = play_text c.each_command_does_something.ensures.session

pub returns-clause-generated : goal.returns-clause-generated
returns-clause-generated c =
    gen_text c.each_command_does_something.ensures.session c.generated_topology_is_read.ensures c.generated_script_is_read.ensures
