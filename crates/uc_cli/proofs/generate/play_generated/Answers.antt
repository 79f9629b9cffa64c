use Rattle.std.proofs.Common.{ℕ, List, Option, ap}
use Rattle.uc_io.specs.Sure.{put_under}
use Rattle.uc_cli.proofs.Generated.{is_within, holds_bundle, was_played}
use Rattle.uc_cli.proofs.generate.play_generated.Goals as goal

pub run_session-answer-requires-clause-within : goal.run_session-answer-requires-clause-within
run_session-answer-requires-clause-within c =
    is_within c.each_command_does_something.ensures.session c.args.number c.generated_topology_is_read.ensures c.generated_script_is_read.ensures c.in_ok-machine.machine c.in_ok-script.script
    c.in_ok-machine.ensures c.in_ok-script.ensures

pub returns : goal.returns
returns c =
    was_played c.each_command_does_something.ensures.session c.args.number c.generated_topology_is_read.ensures c.generated_script_is_read.ensures c.in_ok-machine.machine c.in_ok-script.script
    c.in_ok-machine.ensures c.in_ok-script.ensures _
    (holds_bundle c.args.number (put_under c.new-files.result) (put_under c.keep.new.self) c.in_ok-bundle.bundle.items c.in_ok-keep.ensures.ok
    (λ name. ap (λ (put : List ℕ → Option (List ℕ)). put name) c.new-files.ensures.contents)
    c.in_ok-bundle.ensures)
    _ _ c.new-tally.result c.run_session-answer.new.out c.new-tally.ensures c.run_session-answer.result c.in_default.not-NoMemory
    c.run_session-answer.ensures.played
