use Rattle.std.proofs.Common.{◌≡◌, ℕ, ◌<◌, ◌^◌, ap, sym, subst, ◌∙◌, None}
use Rattle.rendezvous_steps.specs.declared.operations.Word.{Word}
use Rattle.rendezvous_steps.specs.declared.operations.Word.TheVariants.{Rev}
use Rattle.rendezvous_steps.specs.Words.{touched, words_after}
use Rattle.ctl_words.specs.Lists.{word_of}
use Rattle.ctl_words.specs.Plans.{plan_of}
use Rattle.ctl_core.specs.Moments.{State, Fits, owner, unfinished_in}
use Rattle.ctl_core.proofs.Counting.{unfinished_stays}
use Rattle.ctl_core.proofs.Changes.{Fits-applied}
use Rattle.ctl_core.proofs.moments.Moment.change.Goals as goal

pub returns-in-None-clause-written : goal.returns-in-None-clause-written
returns-in-None-clause-written c =
    c.apply.ensures.written ∙ ap (λ (s : State). words_after (word_of s.words) c.args.op) c.self.view_is

pub returns-in-None-clause-fits : goal.returns-in-None-clause-fits
returns-in-None-clause-fits c =
    let plan = plan_of c.args.plan.now in
    let fits = subst (λ (s : State). Fits plan s) (sym c.self.view_is) c.requires.fits in
    let written : word_of c.apply.new.self ≡ words_after (word_of c.args.self.now.words) c.args.op = c.apply.ensures.written ∙ ap (λ (s : State). words_after (word_of s.words) c.args.op) c.self.view_is in
    let none : owner (touched c.args.op) ≡ None = ap owner (sym c.word.ensures) ∙ (sym c.owner.ensures ∙ c.in-None.is) in
    let stays = unfinished_stays plan (word_of c.self.inside.words) c.args.op none in
    Fits-applied plan _ c.apply.new.self _ fits c.apply.ensures.same_words
    (λ g. subst (λ (words : Word → ℕ). words (Rev g) < 2 ^ 32) (sym written) (c.requires.revisions g))
    (fits.counted ∙ (sym stays ∙ ap (unfinished_in plan) (sym c.apply.ensures.written)))
