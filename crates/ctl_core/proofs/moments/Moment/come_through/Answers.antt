use Rattle.std.proofs.Common.{sym, ap, ◌∙◌}
use Rattle.ctl_words.specs.Plans.{plan_of}
use Rattle.ctl_core.specs.Moments.{running_of}
use Rattle.ctl_core.proofs.Changes.{runs_by-left}
use Rattle.ctl_core.proofs.moments.Moment.come_through.Goals as goal

pub returns-then-left_with_latch-clause-state : goal.returns-then-left_with_latch-clause-state
returns-then-left_with_latch-clause-state c =
    let running = running_of c.args.self.now in
    c.ordinary.ensures.state ∙ ap (λ x. x.0) (sym (runs_by-left (plan_of c.args.plan.now) c.args.thread running (sym c.left_with_latch.ensures ∙ c.if-left_with_latch.true)))
