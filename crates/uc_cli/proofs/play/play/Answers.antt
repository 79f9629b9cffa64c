use Rattle.std.proofs.Common.{ℕ, List, inl, ◌∙◌, ap}
use Rattle.tool_text.proofs.script_text.Kept.{within}
use Rattle.tool_text.specs.Plays.{limits_of, PlayText}
use Rattle.uc_cli.proofs.Causes.{session_cause}
use Rattle.uc_cli.proofs.Endings.{topology_refused}
use Rattle.uc_cli.proofs.Playing.{script_refused, session_written}
use Rattle.uc_cli.proofs.play.play.Goals as goal

pub returns-in-Err-clause-written : goal.returns-in-Err-clause-written
returns-in-Err-clause-written g c =
    let topology = c.args.topology.now in
    let script = c.args.script.now in
    let holds = g.F.Files.holds c.args.files.now in
    topology_refused g.S.Sink.stands g.S.Sink.faults _ _ (PlayText topology script) _ topology holds _ _ c.in-Err.refusal _ (λ reads files text status fails. inl fails) (c.some_session_text.ensures.played topology script holds)
    c.in-Err.ensures.answer
    c.refuse.ensures.ends

pub returns-in-Err-read_commands-clause-written : goal.returns-in-Err-read_commands-clause-written
returns-in-Err-read_commands-clause-written g c =
    let topology = c.args.topology.now in
    let script = c.args.script.now in
    let tells = g.F.Pieces.tells c.args.files.now in
    let holds = g.F.Files.holds c.args.files.now in
    let stated = c.in-Ok.ensures.answer.1 in
    script_refused tells holds topology script g.S.Sink.stands g.S.Sink.faults c.in-Ok.machine stated.0 stated.1 stated.2 _ _ c.in-Ok.ensures.still c.in-Ok.ensures.same _ _ _ _ _ c.in-Ok.ensures.answer.0
    (c.some_session_text.ensures.played topology script holds)
    c.in-Err-read_commands.refusal
    _
    c.in-Err-read_commands.ensures.answer
    c.refuse-in-Err-read_commands.ensures.ends

pub run_session-answer-requires-clause-within : goal.run_session-answer-requires-clause-within
run_session-answer-requires-clause-within g c =
    let script = c.in-Ok-read_commands.ensures.answer.1 in
    within (limits_of c.in-Ok.machine) script.0 c.in-Ok-read_commands.script script.2.states

pub returns-clause-write_cause : goal.returns-clause-write_cause
returns-clause-write_cause g c =
    session_cause g.S.Sink.stands g.S.Sink.faults _ _ _ _ c.run_session-answer.result
    c.run_session-answer.ensures.sink_cause c.end_session.ensures

pub returns-clause-written : goal.returns-clause-written
returns-clause-written g c =
    let topology = c.args.topology.now in
    let script = c.args.script.now in
    let tells = g.F.Pieces.tells c.args.files.now in
    let holds = g.F.Files.holds c.args.files.now in
    let first = c.in-Ok.ensures in
    let second = c.in-Ok-read_commands.ensures in
    session_written tells holds topology script g.S.Sink.stands g.S.Sink.faults c.in-Ok.machine c.in-Ok-read_commands.script
    (record {
      topology_bytes = first.answer.1.0;
      topology_held = first.answer.1.1;
      is_machine = first.answer.1.2;
      script_bytes = second.answer.1.0;
      script_held = λ tell. second.answer.1.1 (first.still tell) ∙ ap (λ (h : List ℕ → List ℕ). h script) first.same;
      is_script = second.answer.1.2;
    })
    _
    _
    (λ tell. second.still (first.still tell))
    (second.same ∙ first.same)
    (record { files = _; runs = _; sink = _ })
    (record { files = _; runs = _; sink = _ })
    _
    (second.answer.0 ∙ first.answer.0)
    c.run_session-answer.result
    _
    _
    c.run_session-answer.ensures.played
    c.end_session.ensures
