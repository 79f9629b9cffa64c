use Rattle.std.proofs.Common.{sym, ap, ◌∙◌, Some, None}
use Rattle.rendezvous_steps.specs.StepTable.{operation}
use Rattle.ctl_words.specs.Plans.{plan_of}
use Rattle.ctl_core.specs.Moments.{running_of}
use Rattle.ctl_core.proofs.Changes.{steps-operation}
use Rattle.ctl_core.proofs.moments.Moment.act.Goals as goal

pub returns-in-Some-clause-state : goal.returns-in-Some-clause-state
returns-in-Some-clause-state c =
    let running = running_of c.args.self.now in
    let e = ap (λ l. operation (plan_of c.args.plan.now) c.args.thread l c.args.how) (sym c.local-local.ensures) ∙ (sym c.next.ensures.row ∙ c.in-Some.is) in
    c.perform.ensures.state ∙ ap (λ x. x.0) (sym (steps-operation _ _ _ running (Some c.in-Some.op) e))

pub returns-in-None-clause-state : goal.returns-in-None-clause-state
returns-in-None-clause-state c =
    let running = running_of c.args.self.now in
    let e = ap (λ l. operation (plan_of c.args.plan.now) c.args.thread l c.args.how) (sym c.local-local.ensures) ∙ (sym c.next.ensures.row ∙ c.in-None.is) in
    c.come_through.ensures.state ∙ ap (λ x. x.0) (sym (steps-operation _ _ _ running None e))
