use Rattle.std.proofs.Common.{◌≡◌, ◌<◌, refl, sym, ap, subst, ◌∙◌}
use Rattle.rendezvous_steps.specs.declared.steps.Local.{Local}
use Rattle.rendezvous_steps.specs.StepTable.{polled}
use Rattle.rendezvous_steps.specs.Events.{put}
use Rattle.ctl_words.specs.Plans.{plan_of}
use Rattle.ctl_core.specs.Moments.{running_of}
use Rattle.ctl_core.proofs.Changes.{performed, Fits-local}
use Rattle.ctl_core.proofs.Polling.{waits_polls}
use Rattle.ctl_core.proofs.moments.Moment.poll.Goals as goal

pub returns-clause-item : goal.returns-clause-item
returns-clause-item c =
    ap (λ x. x.1) (sym (waits_polls (plan_of c.args.plan.now) c.args.thread (running_of c.args.self.now) c.requires.waits))

pub returns-clause-state : goal.returns-clause-state
returns-clause-state c =
    let plan = plan_of c.args.plan.now in
    let now = running_of c.args.self.now in
    let next : Local = record c.local-local.result { polls = c.saturating_add.result } in
    let same : next ≡ polled (now.locals c.args.thread) = rw (c.saturating_add.ensures, c.local-local.ensures) refl in
    rw c.set_local.ensures (performed plan c.args.self.now c.args.self.now c.args.thread next c.requires.fits c.requires.in_range refl refl
    ∙ ap (λ (l : Local). record now { locals = put now.locals c.args.thread l }) same
    ∙ ap (λ x. x.0) (sym (waits_polls plan c.args.thread now c.requires.waits)))

pub returns-clause-fits : goal.returns-clause-fits
returns-clause-fits c =
    let plan = plan_of c.args.plan.now in
    let next : Local = record c.local-local.result { polls = c.saturating_add.result } in
    let at = subst (λ (l : Local). l.at < plan.threads) (sym c.local-local.ensures) (c.requires.fits.places c.args.thread c.requires.in_range) in
    rw c.set_local.ensures (Fits-local plan c.args.self.now c.args.thread next c.requires.fits c.requires.in_range at)
