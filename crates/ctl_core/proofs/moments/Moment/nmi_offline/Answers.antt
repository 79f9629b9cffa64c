use Rattle.std.proofs.Common.{sym, ap, ◌∙◌}
use Rattle.ctl_words.specs.Plans.{plan_of}
use Rattle.ctl_core.specs.Moments.{running_of}
use Rattle.ctl_core.proofs.Changes.{nmi_offline-over}
use Rattle.ctl_core.proofs.moments.Moment.nmi_offline.Goals as goal

pub returns-then-is_over-clause-state : goal.returns-then-is_over-clause-state
returns-then-is_over-clause-state c =
    let running = running_of c.args.self.now in
    let outside = sym c.is_outside.ensures ∙ c.if-is_outside.false in
    let over = sym c.is_over.ensures ∙ c.if-is_over.true in
    c.ordinary.ensures.state ∙ ap (λ x. x.0) (sym (nmi_offline-over (plan_of c.args.plan.now) c.args.thread running outside over))
