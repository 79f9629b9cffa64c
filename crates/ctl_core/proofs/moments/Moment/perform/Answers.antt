use Rattle.std.proofs.Common.{◌≡◌, ℕ, ◌<◌, refl, IfSome, IsTrue, subst, sym, ap, ◌∙◌}
use Rattle.rendezvous_steps.specs.declared.operations.Word.{Word}
use Rattle.rendezvous_steps.specs.declared.steps.Local.{Local}
use Rattle.rendezvous_steps.specs.declared.items.What.{What}
use Rattle.rendezvous_steps.specs.Events.{put}
use Rattle.rendezvous_steps.specs.Words.{touched, words_after}
use Rattle.rendezvous_steps.specs.StepTable.{after}
use Rattle.ctl_words.specs.Places.{is_word}
use Rattle.ctl_words.specs.Plans.{plan_of}
use Rattle.ctl_thread.proofs.Ranges.{words, place}
use Rattle.ctl_core.specs.Chains.{Chained}
use Rattle.ctl_core.specs.Moments.{State, running_of}
use Rattle.ctl_core.proofs.Changes.{performed, Fits-local}
use Rattle.ctl_core.proofs.Revisions.{small_after}
use Rattle.ctl_core.proofs.moments.Moment.perform.Goals as goal

-- the table's word is one of the plan's, so it is there
pub apply-found-requires-clause-there : goal.apply-found-requires-clause-there
apply-found-requires-clause-there c =
    let plan = plan_of c.args.plan.now in
    let at = c.requires.fits.places c.args.thread c.requires.in_range in
    let known = words plan c.args.thread ((running_of c.args.self.now).locals c.args.thread) c.args.how c.requires.sound.sound c.requires.in_range at in
    c.requires.fits.words (touched c.args.op) ∙ subst (λ op. IfSome op (λ o. IsTrue (is_word plan (touched o)))) c.requires.next known

pub apply-found-requires-clause-revisions : goal.apply-found-requires-clause-revisions
apply-found-requires-clause-revisions c =
    small_after (plan_of c.args.plan.now) c.args.thread ((running_of c.args.self.now).locals c.args.thread) c.args.how (running_of c.args.self.now).words c.args.op c.requires.next c.requires.fits.writes c.requires.fits.revisions

pub returns-clause-state : goal.returns-clause-state
returns-clause-state c =
    let plan = plan_of c.args.plan.now in
    let now = running_of c.args.self.now in
    let outcome : c.after_linked-what.result ≡ after plan c.args.thread (now.locals c.args.thread) c.args.how (now.words (touched c.args.op)) = rw (c.after_linked-what.ensures, c.requires.local, c.apply-found.ensures.found) refl in
    let written = performed plan c.args.self.now c.apply-found.new.self c.args.thread c.after_linked-what.result.0 c.requires.fits c.requires.in_range c.apply-found.ensures.same_locals c.apply-found.ensures.same_latched in
    rw c.set_local.ensures (written
    ∙ ap (λ (words : Word → ℕ). record now { words = words; locals = put now.locals c.args.thread c.after_linked-what.result.0 }) c.apply-found.ensures.written
    ∙ ap (λ (next : Local × What). record now { words = words_after now.words c.args.op; locals = put now.locals c.args.thread next.0 }) outcome)

pub returns-clause-fits : goal.returns-clause-fits
returns-clause-fits c =
    let plan = plan_of c.args.plan.now in
    let now = running_of c.args.self.now in
    let at = c.requires.fits.places c.args.thread c.requires.in_range in
    let outcome : c.after_linked-what.result ≡ after plan c.args.thread (now.locals c.args.thread) c.args.how (now.words (touched c.args.op)) = rw (c.after_linked-what.ensures, c.requires.local, c.apply-found.ensures.found) refl in
    let next_at = subst (λ (next : Local × What). next.0.at < plan.threads) (sym outcome) (place plan c.args.thread (now.locals c.args.thread) c.args.how (now.words (touched c.args.op)) at) in
    rw c.set_local.ensures (Fits-local plan c.apply-found.new.self c.args.thread c.after_linked-what.result.0 c.apply-found.ensures.fits c.requires.in_range next_at)

pub after_linked-what-requires-clause-linked : goal.after_linked-what-requires-clause-linked
after_linked-what-requires-clause-linked c =
    let plan = plan_of c.args.plan.now in
    c.links.ensures plan (subst (λ (s : State). Chained plan s.chains) (sym c.self.view_is) c.apply-found.ensures.fits.chained)
