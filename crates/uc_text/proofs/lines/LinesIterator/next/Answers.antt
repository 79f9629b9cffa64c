use Rattle.std.proofs.Common.{◌≡◌, ◌<◌, [], length, sym, ◌∙◌, ap, arith}
use Rattle.std.specs.List.{enumerate_from}
use Rattle.std.proofs.lemmas.Bool.Decides.{nat_tests}
use Rattle.std.proofs.lemmas.List.{nil_from_length}
use Rattle.uc_text.specs.Lines.{lines_of}
use Rattle.uc_text.proofs.Pieces.{lines_of-nil, numbered-first}
use Rattle.uc_text.proofs.lines.LinesIterator.next.Goals as goal

pub returns-then-is_empty-clause-steps : goal.returns-then-is_empty-clause-steps
returns-then-is_empty-clause-steps c =
    let none : c.self.inside.rest.now ≡ [] = nil_from_length c.self.inside.rest.now (grind (arith, nat_tests)) in
    let done = sym c.self.view_is ∙ ap (λ bytes. enumerate_from c.self.inside.number (lines_of bytes)) none ∙ ap (enumerate_from c.self.inside.number) lines_of-nil in
    (done, done)

pub returns-clause-steps : goal.returns-clause-steps
returns-clause-steps c =
    let some : 0 < length c.self.inside.rest.now = grind (arith, nat_tests) in
    sym c.self.view_is ∙ numbered-first c.self.inside.number _ c.self.inside.rest.now _ _ _ some c.line_feed_at.ensures.value c.split_around.ensures.front c.split_around.ensures.back c.without_carriage_return.ensures

pub returns-clause-goes : goal.returns-clause-goes
returns-clause-goes c = record { on = λ _. (tt, tt, omega (arith, ap length (returns-clause-steps c))); keeps = tt; rests = λ _. tt }
