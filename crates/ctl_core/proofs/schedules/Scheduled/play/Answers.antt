use Rattle.std.proofs.Common.{◌∙◌}
use Rattle.std.proofs.lemmas.Result.{err_from_is_err_and}
use Rattle.ctl_words.specs.Plans.{plan_of}
use Rattle.uc_rendezvous.specs.Outcomes.{outcome_of}
use Rattle.ctl_core.proofs.Plays.{played_at, shows_at}
use Rattle.ctl_core.proofs.schedules.Scheduled.play.Goals as goal

pub returns-in_err-play_beats-clause-played : goal.returns-in_err-play_beats-clause-played
returns-in_err-play_beats-clause-played g c =
    let p = err_from_is_err_and c.from_residual-in_err-play_beats.result c.from_residual-in_err-play_beats.ensures.1 in
    let plays = played_at g.S.Sink.stands g.S.Sink.faults _ (plan_of c.args.plan.now) _ _ c.args.beats.now c.args.out.now c.play_beats.new.out _ c.in_ok-core.ensures.plan c.in_ok-core.ensures.opening c.in_err-play_beats.ensures.plays in
    rw (p.1, p.2) plays.wrote.outcome

pub returns-clause-played : goal.returns-clause-played
returns-clause-played g c =
    let plays = played_at g.S.Sink.stands g.S.Sink.faults _ (plan_of c.args.plan.now) _ _ c.args.beats.now c.args.out.now c.play_beats.new.out _ c.in_ok-core.ensures.plan c.in_ok-core.ensures.opening c.in_ok-play_beats.ensures.plays in
    (plays.wrote.outcome, shows_at _ (plan_of c.args.plan.now) _ _ (outcome_of c.fill_outcome.new.outcome) (c.in_ok-play_beats.ensures.plan ∙ c.in_ok-core.ensures.plan) plays.came c.fill_outcome.ensures)
