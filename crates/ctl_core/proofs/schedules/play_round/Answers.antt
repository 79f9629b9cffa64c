use Rattle.std.proofs.Common.{◌≡◌, ℕ, ◌+◌, ◌-◌, Ok, map, [], ◌∷◌, sym, ◌∙◌, subst, arith}
use Rattle.std.specs.List.{range_with_len}
use Rattle.uc_io.specs.declared.sinks.SinkFailed.{SinkFailed}
use Rattle.rendezvous_steps.specs.declared.items.Event.{Event}
use Rattle.rendezvous_steps.specs.declared.items.Event.TheVariants.{Step}
use Rattle.rendezvous_steps.specs.Plan.{threads_from}
use Rattle.ctl_core.specs.Cores.{plan_in, moment_in}
use Rattle.ctl_core.specs.Playing.{Plays}
use Rattle.std.proofs.lemmas.List.FromFn.{map-range_with_len_more}
use Rattle.ctl_core.proofs.Plays.{more_played, cut_short, round_split_0}
use Rattle.ctl_core.proofs.schedules.play_round.Goals as goal

pub returns-in_err-play_event-clause-plays : goal.returns-in_err-play_event-clause-plays
returns-in_err-play_event-clause-plays g c =
    let plan = plan_in c.args.core.now in
    let n = c.loop-thread.thread in
    let step : ℕ → Event = λ t. Step t in
    cut_short g.S.Sink.stands g.S.Sink.faults plan {E = SinkFailed} c.in_err-play_event.field-0.0 c.from_residual.result c.from_residual.ensures.0 (plan_in c.loop-thread.core) c.loop-thread.invariant.plan
    (moment_in c.args.core.now) (moment_in c.loop-thread.core) (moment_in c.play_event.new.core) (moment_in c.play_event.new.core)
    (map step (range_with_len 0 n)) (step n ∷ []) (map step (range_with_len (n + 1) (plan.threads - 0 - (n + 1)))) (map step (threads_from plan 0))
    c.args.out.now c.loop-thread.out c.play_event.new.out (round_split_0 step (plan.threads - 0) n (omega (arith, c.threads-thread-end.ensures, c.loop-thread-test.true)))
    c.loop-thread.invariant.plays c.in_err-play_event.ensures.plays

pub loop-thread-preserved : goal.loop-thread-preserved
loop-thread-preserved g c =
    let plan = plan_in c.args.core.now in
    let n = c.loop-thread.thread in
    let step : ℕ → Event = λ t. Step t in
    record {
      plays =
          more_played g.S.Sink.stands g.S.Sink.faults plan {E = SinkFailed} (plan_in c.loop-thread.core) c.loop-thread.invariant.plan
          (moment_in c.args.core.now) (moment_in c.loop-thread.core) (moment_in c.play_event.new.core)
          (map step (range_with_len 0 n)) (step n ∷ []) (map step (range_with_len 0 (n + 1)))
          c.args.out.now c.loop-thread.out c.play_event.new.out (sym (map-range_with_len_more step 0 n n (omega arith)))
          c.loop-thread.invariant.plays c.in_ok-play_event.ensures.plays;
      plan = c.in_ok-play_event.ensures.plan ∙ c.loop-thread.invariant.plan;
    }

pub returns-clause-plays : goal.returns-clause-plays
returns-clause-plays g c =
    let plan = plan_in c.args.core.now in
    let step : ℕ → Event = λ t. Step t in
    let all : c.loop-thread.thread ≡ plan.threads - 0 = omega (arith, c.threads-thread-end.ensures, c.loop-thread-test.false, c.loop-thread.auto.thread-end) in
    subst (λ (n : ℕ). Plays {E = SinkFailed} g.S.Sink.stands g.S.Sink.faults plan (record { moment = moment_in c.args.core.now; sink = c.args.out.now }) (record { moment = moment_in c.loop-thread.core; sink = c.loop-thread.out }) (map step (range_with_len 0 n)) (Ok tt)) all c.loop-thread.invariant.plays
