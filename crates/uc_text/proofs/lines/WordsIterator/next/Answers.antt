use Rattle.std.proofs.Common.{◌<◌, length, drop, sym, ◌∙◌, ap, arith}
use Rattle.std.proofs.lemmas.Bool.Decides.{nat_tests}
use Rattle.uc_text.proofs.Pieces.{next_word, no_word}
use Rattle.uc_text.proofs.lines.WordsIterator.next.Goals as goal

pub returns-then-is_empty-clause-steps : goal.returns-then-is_empty-clause-steps
returns-then-is_empty-clause-steps c =
    let text = c.split_at.ensures.back ∙ ap (λ at. drop at c.self.inside.rest.now) c.word_at.ensures.value in
    let done = sym c.self.view_is ∙ no_word c.self.inside.rest.now _ _ _ text c.blank_at.ensures.value c.split_around.ensures.front (grind (arith, nat_tests)) in
    (done, done)

pub returns-clause-steps : goal.returns-clause-steps
returns-clause-steps c =
    let some : 0 < length c.split_around.result.0.now = grind (arith, nat_tests) in
    let text = c.split_at.ensures.back ∙ ap (λ at. drop at c.self.inside.rest.now) c.word_at.ensures.value in
    sym c.self.view_is ∙ next_word c.self.inside.rest.now _ _ _ _ text c.blank_at.ensures.value c.split_around.ensures.front c.split_around.ensures.back some

pub returns-clause-goes : goal.returns-clause-goes
returns-clause-goes c = record { on = λ _. (tt, tt, omega (arith, ap length (returns-clause-steps c))); keeps = tt; rests = λ _. tt }
