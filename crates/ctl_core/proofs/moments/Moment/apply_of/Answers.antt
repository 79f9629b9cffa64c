use Rattle.std.proofs.Common.{◌≡◌, ℕ, ◌<◌, ◌^◌, Bool, true, false, refl, ap, sym, subst, ◌∙◌}
use Rattle.std.proofs.Math.Bool.{beq}
use Rattle.rendezvous_steps.specs.declared.operations.Word.{Word}
use Rattle.rendezvous_steps.specs.declared.operations.Word.TheVariants.{Rev}
use Rattle.rendezvous_steps.specs.Words.{touched, written, words_after}
use Rattle.ctl_words.specs.Lists.{word_of}
use Rattle.ctl_words.specs.Plans.{plan_of}
use Rattle.ctl_core.specs.Moments.{State, Fits, is_end, unfinished_in}
use Rattle.ctl_core.proofs.Counting.{unfinished_alike}
use Rattle.ctl_core.proofs.Changes.{Fits-applied}
use Rattle.ctl_core.proofs.moments.Moment.apply_of.Goals as goal

alike : (a b : Bool) → beq a b ≡ true → a ≡ b
alike true true e = refl
alike true false e = absurd cc
alike false true e = absurd cc
alike false false e = refl

pub returns-then-is_end-clause-written : goal.returns-then-is_end-clause-written
returns-then-is_end-clause-written c =
    c.apply.ensures.written ∙ ap (λ (s : State). words_after (word_of s.words) c.args.op) c.self.view_is

pub returns-then-is_end-clause-fits : goal.returns-then-is_end-clause-fits
returns-then-is_end-clause-fits c =
    let plan = plan_of c.args.plan.now in
    let words = word_of c.self.inside.words in
    let fits = subst (λ (s : State). Fits plan s) (sym c.self.view_is) c.requires.fits in
    let after : word_of c.apply.new.self ≡ words_after (word_of c.args.self.now.words) c.args.op = c.apply.ensures.written ∙ ap (λ (s : State). words_after (word_of s.words) c.args.op) c.self.view_is in
    let found : c.load-found.result ≡ words (touched c.args.op) = c.load-found.ensures ∙ (ap (word_of c.args.self.now.words) c.word-word.ensures ∙ ap (λ (s : State). word_of s.words (touched c.args.op)) (sym c.self.view_is)) in
    let before : c.is_end.result ≡ is_end (touched c.args.op) (words (touched c.args.op)) = c.is_end.ensures ∙ (rw (c.word-word.ensures, found) refl) in
    let later : c.is_end-2.result ≡ is_end (touched c.args.op) (written c.args.op (words (touched c.args.op))) = c.is_end-2.ensures ∙ (rw (c.word-word.ensures, c.written.ensures, found) refl) in
    let same = sym before ∙ (alike c.is_end.result c.is_end-2.result c.if-is_end.true ∙ later) in
    Fits-applied plan _ c.apply.new.self _ fits c.apply.ensures.same_words
    (λ g. subst (λ (words : Word → ℕ). words (Rev g) < 2 ^ 32) (sym after) (c.requires.revisions g))
    (fits.counted ∙ (sym (unfinished_alike plan words c.args.op same) ∙ ap (unfinished_in plan) (sym c.apply.ensures.written)))
