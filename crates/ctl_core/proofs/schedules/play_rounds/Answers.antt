use Rattle.std.proofs.Common.{◌≡◌, ℕ, ◌+◌, ◌-◌, ◌++◌, Ok, map, [], sym, ap, ◌∙◌, subst, arith}
use Rattle.uc_io.specs.declared.sinks.SinkFailed.{SinkFailed}
use Rattle.rendezvous_steps.specs.declared.items.Event.TheVariants.{Step}
use Rattle.rendezvous_steps.specs.Plan.{Plan, threads_from}
use Rattle.rendezvous_rule.specs.Ran.{repeated}
use Rattle.ctl_core.specs.Cores.{plan_in, moment_in}
use Rattle.ctl_core.specs.Playing.{Plays}
use Rattle.ctl_core.proofs.Plays.{more_played, cut_short, nothing_more, one_round_more, rounds_split, rounds_left}
use Rattle.ctl_core.proofs.schedules.play_rounds.Goals as goal

pub returns-then-is_over-clause-plays : goal.returns-then-is_over-clause-plays
returns-then-is_over-clause-plays g c =
    let plan = plan_in c.args.core.now in
    let round = map (λ t. Step t) (threads_from plan 0) in
    nothing_more g.S.Sink.stands g.S.Sink.faults plan {E = SinkFailed} {F = SinkFailed} (plan_in c.loop-round.core) c.loop-round.invariant.plan
    (moment_in c.args.core.now) (moment_in c.loop-round.core) (repeated c.loop-round._round round []) (repeated (c.args.count - c.loop-round._round) round []) (repeated c.args.count round [])
    c.args.out.now c.loop-round.out (rounds_left c.args.count c.loop-round._round round (omega (arith, c.loop-round-test.true))) (sym c.is_over.ensures ∙ c.if-is_over.true) c.loop-round.invariant.plays

pub returns-in_err-play_round-clause-plays : goal.returns-in_err-play_round-clause-plays
returns-in_err-play_round-clause-plays g c =
    let plan = plan_in c.args.core.now in
    let round = map (λ t. Step t) (threads_from plan 0) in
    cut_short g.S.Sink.stands g.S.Sink.faults plan {E = SinkFailed} c.in_err-play_round.field-0.0 c.from_residual.result c.from_residual.ensures.0 (plan_in c.loop-round.core) c.loop-round.invariant.plan
    (moment_in c.args.core.now) (moment_in c.loop-round.core) (moment_in c.play_round.new.core) (moment_in c.play_round.new.core)
    (repeated c.loop-round._round round []) (map (λ t. Step t) (threads_from (plan_in c.loop-round.core) 0)) (repeated (c.args.count - (c.loop-round._round + 1)) round []) (repeated c.args.count round [])
    c.args.out.now c.loop-round.out c.play_round.new.out
    (ap (λ (p : Plan). repeated c.loop-round._round round [] ++ (map (λ t. Step t) (threads_from p 0) ++ repeated (c.args.count - (c.loop-round._round + 1)) round [])) c.loop-round.invariant.plan ∙ rounds_split c.args.count c.loop-round._round round (omega (arith, c.loop-round-test.true)))
    c.loop-round.invariant.plays c.in_err-play_round.ensures.plays

pub loop-round-preserved : goal.loop-round-preserved
loop-round-preserved g c =
    let plan = plan_in c.args.core.now in
    let round = map (λ t. Step t) (threads_from plan 0) in
    record {
      plays =
          more_played g.S.Sink.stands g.S.Sink.faults plan {E = SinkFailed} (plan_in c.loop-round.core) c.loop-round.invariant.plan
          (moment_in c.args.core.now) (moment_in c.loop-round.core) (moment_in c.play_round.new.core)
          (repeated c.loop-round._round round []) (map (λ t. Step t) (threads_from (plan_in c.loop-round.core) 0)) (repeated (c.loop-round._round + 1) round [])
          c.args.out.now c.loop-round.out c.play_round.new.out
          (ap (λ (p : Plan). repeated c.loop-round._round round [] ++ map (λ t. Step t) (threads_from p 0)) c.loop-round.invariant.plan ∙ one_round_more c.loop-round._round round)
          c.loop-round.invariant.plays c.in_ok-play_round.ensures.plays;
      plan = c.in_ok-play_round.ensures.plan ∙ c.loop-round.invariant.plan;
    }

pub returns-clause-plays : goal.returns-clause-plays
returns-clause-plays g c =
    let plan = plan_in c.args.core.now in
    let round = map (λ t. Step t) (threads_from plan 0) in
    let all : c.loop-round._round ≡ c.args.count = omega (arith, c.loop-round-test.false, c.loop-round.auto) in
    subst (λ (n : ℕ). Plays {E = SinkFailed} g.S.Sink.stands g.S.Sink.faults plan (record { moment = moment_in c.args.core.now; sink = c.args.out.now }) (record { moment = moment_in c.loop-round.core; sink = c.loop-round.out }) (repeated n round []) (Ok tt)) all c.loop-round.invariant.plays
