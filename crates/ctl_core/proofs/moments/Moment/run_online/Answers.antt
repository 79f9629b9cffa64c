use Rattle.std.proofs.Common.{sym, ap, ◌∙◌}
use Rattle.ctl_words.specs.Plans.{plan_of}
use Rattle.ctl_core.specs.Moments.{running_of}
use Rattle.ctl_core.proofs.Changes.{runs_by-online}
use Rattle.ctl_core.proofs.moments.Moment.run_online.Goals as goal

pub returns-else-has_halted-clause-state : goal.returns-else-has_halted-clause-state
returns-else-has_halted-clause-state c =
    let running = running_of c.args.self.now in
    c.ordinary.ensures.state ∙ ap (λ x. x.0) (sym (runs_by-online (plan_of c.args.plan.now) c.args.thread running (sym c.has_halted.ensures ∙ c.if-has_halted.false)))
