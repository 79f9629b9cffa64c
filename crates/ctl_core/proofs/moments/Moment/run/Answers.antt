use Rattle.std.proofs.Common.{sym, ap, ◌∙◌}
use Rattle.ctl_words.specs.Plans.{plan_of}
use Rattle.ctl_core.specs.Moments.{running_of}
use Rattle.ctl_core.proofs.Changes.{runs-held, runs-outside}
use Rattle.ctl_core.proofs.moments.Moment.run.Goals as goal

pub returns-then-is_held-clause-state : goal.returns-then-is_held-clause-state
returns-then-is_held-clause-state c =
    let running = running_of c.args.self.now in
    c.act.ensures.state ∙ ap (λ x. x.0) (sym (runs-held (plan_of c.args.plan.now) c.args.thread running (sym c.is_held.ensures ∙ c.if-is_held.true)))

pub returns-else-is_held-clause-state : goal.returns-else-is_held-clause-state
returns-else-is_held-clause-state c =
    let running = running_of c.args.self.now in
    (rw c.kind_of.ensures at c.run_outside.ensures.state) ∙ ap (λ x. x.0) (sym (runs-outside (plan_of c.args.plan.now) c.args.thread running (sym c.is_held.ensures ∙ c.if-is_held.false)))
