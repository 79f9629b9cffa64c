use Rattle.std.proofs.Common.{sym, ap, ◌∙◌}
use Rattle.ctl_words.specs.Plans.{plan_of}
use Rattle.ctl_core.specs.Moments.{running_of}
use Rattle.ctl_core.proofs.Resting.{rests_runs}
use Rattle.ctl_core.proofs.moments.Moment.rest.Goals as goal

pub returns-clause-item : goal.returns-clause-item
returns-clause-item c =
    c.come_through.ensures.item ∙ ap (λ x. x.1) (sym (rests_runs (plan_of c.args.plan.now) c.args.thread (running_of c.args.self.now) c.requires.rests))

pub returns-clause-state : goal.returns-clause-state
returns-clause-state c =
    c.come_through.ensures.state ∙ ap (λ x. x.0) (sym (rests_runs (plan_of c.args.plan.now) c.args.thread (running_of c.args.self.now) c.requires.rests))
