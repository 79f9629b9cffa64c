use Rattle.std.proofs.Common.{◌≡◌, ◌+◌, List, Ok, take, drop, sym, ◌∙◌, subst, take_all}
use Rattle.uc_io.specs.declared.sinks.SinkFailed.{SinkFailed}
use Rattle.rendezvous_steps.specs.declared.ends.Beat.{Beat}
use Rattle.rendezvous_rule.specs.Ran.{events_of}
use Rattle.ctl_core.specs.Cores.{plan_in, moment_in}
use Rattle.ctl_core.specs.Playing.{Plays}
use Rattle.ctl_core.proofs.Plays.{more_played, cut_short, nothing_more, beat_more, beat_split, beats_left}
use Rattle.ctl_core.proofs.schedules.play_beats.Goals as goal

pub returns-then-is_over-clause-plays : goal.returns-then-is_over-clause-plays
returns-then-is_over-clause-plays g c =
    let plan = plan_in c.args.core.now in
    let beats = c.args.beats.now in
    nothing_more g.S.Sink.stands g.S.Sink.faults plan {E = SinkFailed} {F = SinkFailed} (plan_in c.loop-beat.core) c.loop-beat.invariant.plan
    (moment_in c.args.core.now) (moment_in c.loop-beat.core) (events_of plan (take c.loop-beat.beat-index beats)) (events_of plan (drop c.loop-beat.beat-index beats)) (events_of plan beats)
    c.args.out.now c.loop-beat.out (beats_left plan beats c.loop-beat.beat-index) (sym c.is_over.ensures ∙ c.if-is_over.true) c.loop-beat.invariant.plays

pub returns-in_err-play_beat-clause-plays : goal.returns-in_err-play_beat-clause-plays
returns-in_err-play_beat-clause-plays g c =
    let plan = plan_in c.args.core.now in
    let beats = c.args.beats.now in
    let i = c.loop-beat.beat-index in
    cut_short g.S.Sink.stands g.S.Sink.faults plan {E = SinkFailed} c.in_err-play_beat.field-0.0 c.from_residual.result c.from_residual.ensures.0 (plan_in c.loop-beat.core) c.loop-beat.invariant.plan
    (moment_in c.args.core.now) (moment_in c.loop-beat.core) (moment_in c.play_beat.new.core) (moment_in c.play_beat.new.core)
    (events_of plan (take i beats)) _ (events_of plan (drop (i + 1) beats)) (events_of plan beats)
    c.args.out.now c.loop-beat.out c.play_beat.new.out
    (beat_split (plan_in c.loop-beat.core) plan beats i _ c.loop-beat.invariant.plan c.loop-beat-test.true)
    c.loop-beat.invariant.plays c.in_err-play_beat.ensures.plays

pub loop-beat-preserved : goal.loop-beat-preserved
loop-beat-preserved g c =
    let plan = plan_in c.args.core.now in
    let beats = c.args.beats.now in
    let i = c.loop-beat.beat-index in
    record {
      plays =
          more_played g.S.Sink.stands g.S.Sink.faults plan {E = SinkFailed} (plan_in c.loop-beat.core) c.loop-beat.invariant.plan
          (moment_in c.args.core.now) (moment_in c.loop-beat.core) (moment_in c.play_beat.new.core)
          (events_of plan (take i beats)) _ (events_of plan (take (i + 1) beats))
          c.args.out.now c.loop-beat.out c.play_beat.new.out
          (beat_more (plan_in c.loop-beat.core) plan beats i _ c.loop-beat.invariant.plan c.loop-beat-test.true)
          c.loop-beat.invariant.plays c.in_ok-play_beat.ensures.plays;
      plan = c.in_ok-play_beat.ensures.plan ∙ c.loop-beat.invariant.plan;
    }

pub returns-clause-plays : goal.returns-clause-plays
returns-clause-plays g c =
    let plan = plan_in c.args.core.now in
    let beats = c.args.beats.now in
    let all : take c.loop-beat.beat-index beats ≡ beats = take_all c.loop-beat.beat-index beats c.loop-beat-test.false in
    subst (λ (bs : List Beat). Plays {E = SinkFailed} g.S.Sink.stands g.S.Sink.faults plan (record { moment = moment_in c.args.core.now; sink = c.args.out.now }) (record { moment = moment_in c.loop-beat.core; sink = c.loop-beat.out }) (events_of plan bs) (Ok tt)) all c.loop-beat.invariant.plays
