use Rattle.script_text.proofs.Kept.{within}
use Rattle.tool_text.specs.Plays.{limits_of}
use Rattle.tool_tests.proofs.tests.patience.the_threads_of_a_load_have_the_patience_of_its_script.Goals as goal

pub run_session-answer-requires-clause-within : goal.run_session-answer-requires-clause-within
run_session-answer-requires-clause-within g c =
    let script = c.in-Ok-read_commands.ensures.answer.1 in
    within (limits_of c.in-Ok.machine) script.0 c.in-Ok-read_commands.script script.2.states
