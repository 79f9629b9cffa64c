use Rattle.std.proofs.Common.{◌≡◌, ℕ, ◌<◌, ◌^◌, ap, sym, subst, ◌∙◌, true}
use Rattle.rendezvous_steps.specs.declared.operations.Word.{Word}
use Rattle.rendezvous_steps.specs.declared.operations.Word.TheVariants.{Rev}
use Rattle.rendezvous_steps.specs.Words.{touched, words_after}
use Rattle.rendezvous_steps.specs.Events.{shows_finished}
use Rattle.ctl_words.specs.Lists.{word_of}
use Rattle.ctl_words.specs.Places.{is_word}
use Rattle.ctl_words.specs.Plans.{plan_of}
use Rattle.ctl_core.specs.Moments.{State, Fits, unfinished_in}
use Rattle.ctl_core.proofs.Counting.{owner_below, unfinished_changes, Recount, recount-room, recount-some, recount}
use Rattle.ctl_core.proofs.Changes.{Fits-applied}
use Rattle.ctl_core.proofs.moments.Moment.apply_and_count.Goals as goal

pub returns-clause-written : goal.returns-clause-written
returns-clause-written c =
    c.apply-found.ensures.written ∙ ap (λ (s : State). words_after (word_of s.words) c.args.op) c.self.view_is

pub recounted-count-requires-clause-room : goal.recounted-count-requires-clause-room
recounted-count-requires-clause-room c =
    let plan = plan_of c.args.plan.now in
    let words = word_of c.self.inside.words in
    let fits = subst (λ (s : State). Fits plan s) (sym c.self.view_is) c.requires.fits in
    let there : is_word plan (touched c.args.op) ≡ true = sym (c.requires.fits.words (touched c.args.op)) ∙ c.requires.there in
    let below = owner_below plan (touched c.args.op) c.args.thread c.requires.of there in
    let moved = unfinished_changes plan words c.args.op c.args.thread c.requires.of below in
    let r : Recount plan words (words_after words c.args.op) c.args.thread c.self.inside.unfinished c.is_finished-before.result c.is_finished-after.result =
    record {
      counted = fits.counted;
      was_finished = c.is_finished-before.ensures;
      is_finished = c.is_finished-after.ensures ∙ ap (λ (w : Word → ℕ). shows_finished plan w c.args.thread) c.apply-found.ensures.written;
      moved = moved;
      few = c.requires.sound.tables.few_threads;
    } in
    recount-room _ _ _ _ _ _ _ r

pub recounted-count-requires-clause-some : goal.recounted-count-requires-clause-some
recounted-count-requires-clause-some c =
    let plan = plan_of c.args.plan.now in
    let words = word_of c.self.inside.words in
    let fits = subst (λ (s : State). Fits plan s) (sym c.self.view_is) c.requires.fits in
    let there : is_word plan (touched c.args.op) ≡ true = sym (c.requires.fits.words (touched c.args.op)) ∙ c.requires.there in
    let below = owner_below plan (touched c.args.op) c.args.thread c.requires.of there in
    let moved = unfinished_changes plan words c.args.op c.args.thread c.requires.of below in
    let r : Recount plan words (words_after words c.args.op) c.args.thread c.self.inside.unfinished c.is_finished-before.result c.is_finished-after.result =
    record {
      counted = fits.counted;
      was_finished = c.is_finished-before.ensures;
      is_finished = c.is_finished-after.ensures ∙ ap (λ (w : Word → ℕ). shows_finished plan w c.args.thread) c.apply-found.ensures.written;
      moved = moved;
      few = c.requires.sound.tables.few_threads;
    } in
    recount-some _ _ _ _ _ _ _ r

pub returns-clause-fits : goal.returns-clause-fits
returns-clause-fits c =
    let plan = plan_of c.args.plan.now in
    let words = word_of c.self.inside.words in
    let fits = subst (λ (s : State). Fits plan s) (sym c.self.view_is) c.requires.fits in
    let there : is_word plan (touched c.args.op) ≡ true = sym (c.requires.fits.words (touched c.args.op)) ∙ c.requires.there in
    let below = owner_below plan (touched c.args.op) c.args.thread c.requires.of there in
    let moved = unfinished_changes plan words c.args.op c.args.thread c.requires.of below in
    let r : Recount plan words (words_after words c.args.op) c.args.thread c.self.inside.unfinished c.is_finished-before.result c.is_finished-after.result =
    record {
      counted = fits.counted;
      was_finished = c.is_finished-before.ensures;
      is_finished = c.is_finished-after.ensures ∙ ap (λ (w : Word → ℕ). shows_finished plan w c.args.thread) c.apply-found.ensures.written;
      moved = moved;
      few = c.requires.sound.tables.few_threads;
    } in
    let written : word_of c.apply-found.new.self ≡ words_after (word_of c.args.self.now.words) c.args.op = c.apply-found.ensures.written ∙ ap (λ (s : State). words_after (word_of s.words) c.args.op) c.self.view_is in
    Fits-applied plan _ c.apply-found.new.self _ fits c.apply-found.ensures.same_words
    (λ g. subst (λ (w : Word → ℕ). w (Rev g) < 2 ^ 32) (sym written) (c.requires.revisions g))
    (recount _ _ _ _ _ _ _ _ r c.recounted-count.ensures ∙ ap (unfinished_in plan) (sym c.apply-found.ensures.written))
