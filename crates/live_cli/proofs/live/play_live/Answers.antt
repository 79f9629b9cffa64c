use Rattle.std.proofs.Common.{ℕ, ◌<◌, ◌≤◌, List, length, ◌∙◌, ap, arith}
use Rattle.script_text.proofs.Kept.{within}
use Rattle.tool_text.specs.Plays.{limits_of}
use Rattle.uc_cli.proofs.Causes.{session_cause}
use Rattle.live_cli.proofs.Played.{topology_refused, too_many_written, script_refused, session_written}
use Rattle.live_cli.proofs.SomeText.{session_text}
use Rattle.live_cli.proofs.live.play_live.Goals as goal

pub returns-in-Err-clause-written : goal.returns-in-Err-clause-written
returns-in-Err-clause-written g c =
    let topology = c.args.topology.now in
    let script = c.args.script.now in
    let holds = g.F.Files.holds c.args.files.now in
    let lists = g.R.Rendezvous.lists in
    let most = g.R.Rendezvous.limit c.args.how.now in
    topology_refused (g.F.Pieces.tells c.args.files.now) holds lists most topology script g.S.Sink.stands g.S.Sink.faults (g.R.Rendezvous.runs c.args.how.now) _ _ _
    (session_text c.each_command_does_something.ensures.session lists g.met.R.Rendezvous.always_runs most topology script holds)
    _
    c.in-Err.refusal
    _
    c.in-Err.ensures.answer
    c.refuse.ensures.ends

pub returns-then-threads-most-clause-written : goal.returns-then-threads-most-clause-written
returns-then-threads-most-clause-written g c =
    let topology = c.args.topology.now in
    let script = c.args.script.now in
    let holds = g.F.Files.holds c.args.files.now in
    let lists = g.R.Rendezvous.lists in
    let most = g.R.Rendezvous.limit c.args.how.now in
    let read = c.in-Ok.ensures.answer in
    let many : most < length c.in-Ok.machine.stated.threads =
    omega (arith, c.if-threads-most.true, c.threads.ensures.value, c.most.ensures) in
    too_many_written (g.F.Pieces.tells c.args.files.now) holds lists most topology script g.S.Sink.stands g.S.Sink.faults (g.R.Rendezvous.runs c.args.how.now) _ _ _
    (session_text c.each_command_does_something.ensures.session lists g.met.R.Rendezvous.always_runs most topology script holds)
    c.in-Ok.machine
    read.1.0
    read.1.1
    read.1.2
    _
    _
    many
    c.refuse-then-threads-most.ensures.ends

pub returns-in-Err-read_commands-clause-written : goal.returns-in-Err-read_commands-clause-written
returns-in-Err-read_commands-clause-written g c =
    let topology = c.args.topology.now in
    let script = c.args.script.now in
    let holds = g.F.Files.holds c.args.files.now in
    let lists = g.R.Rendezvous.lists in
    let most = g.R.Rendezvous.limit c.args.how.now in
    let first = c.in-Ok.ensures in
    let few : length c.in-Ok.machine.stated.threads ≤ most =
    omega (arith, c.if-threads-most.false, c.threads.ensures.value, c.most.ensures) in
    script_refused (g.F.Pieces.tells c.args.files.now) holds lists most topology script g.S.Sink.stands g.S.Sink.faults (g.R.Rendezvous.runs c.args.how.now) _ _ _
    (session_text c.each_command_does_something.ensures.session lists g.met.R.Rendezvous.always_runs most topology script holds)
    c.in-Ok.machine
    first.answer.1.0
    first.answer.1.1
    first.answer.1.2
    few
    _
    _
    first.still
    first.same
    _
    _
    first.answer.0
    c.in-Err-read_commands.refusal
    _
    c.in-Err-read_commands.ensures.answer
    c.refuse-in-Err-read_commands.ensures.ends

pub run_session-answer-requires-clause-most : goal.run_session-answer-requires-clause-most
run_session-answer-requires-clause-most g c =
    omega (arith, c.if-threads-most.false, c.threads.ensures.value, c.most.ensures)

pub run_session-answer-requires-clause-within : goal.run_session-answer-requires-clause-within
run_session-answer-requires-clause-within g c =
    let script = c.in-Ok-read_commands.ensures.answer.1 in
    within (limits_of c.in-Ok.machine) script.0 c.in-Ok-read_commands.script script.2.states

pub returns-clause-write_cause : goal.returns-clause-write_cause
returns-clause-write_cause g c =
    session_cause g.S.Sink.stands g.S.Sink.faults _ _ _ _ c.run_session-answer.result
    c.run_session-answer.ensures.sink_cause c.end_session.ensures

pub returns-clause-written : goal.returns-clause-written
returns-clause-written g c =
    let topology = c.args.topology.now in
    let script = c.args.script.now in
    let tells = g.F.Pieces.tells c.args.files.now in
    let holds = g.F.Files.holds c.args.files.now in
    let lists = g.R.Rendezvous.lists in
    let most = g.R.Rendezvous.limit c.args.how.now in
    let first = c.in-Ok.ensures in
    let second = c.in-Ok-read_commands.ensures in
    let few : length c.in-Ok.machine.stated.threads ≤ most =
    omega (arith, c.if-threads-most.false, c.threads.ensures.value, c.most.ensures) in
    session_written tells holds lists most topology script g.S.Sink.stands g.S.Sink.faults c.in-Ok.machine c.in-Ok-read_commands.script
    (record {
      topology_bytes = first.answer.1.0;
      topology_held = first.answer.1.1;
      is_machine = first.answer.1.2;
      few = few;
      script_bytes = second.answer.1.0;
      script_held = λ tell. second.answer.1.1 (first.still tell) ∙ ap (λ (h : List ℕ → List ℕ). h script) first.same;
      is_script = second.answer.1.2;
    })
    _
    _
    (λ tell. second.still (first.still tell))
    (second.same ∙ first.same)
    (record { files = _; runs = _; sink = _ })
    (record { files = _; runs = _; sink = _ })
    _
    (second.answer.0 ∙ first.answer.0)
    c.run_session-answer.result
    _
    _
    c.run_session-answer.ensures.played
    c.end_session.ensures
