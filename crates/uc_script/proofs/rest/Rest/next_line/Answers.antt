use Rattle.std.proofs.Common.{◌≡◌, ◌<◌, [], length, sym, ◌∙◌, ap, arith}
use Rattle.std.specs.List.{enumerate_from}
use Rattle.std.proofs.lemmas.Bool.Decides.{nat_tests}
use Rattle.std.proofs.lemmas.List.{nil_from_length}
use Rattle.uc_text.specs.Lines.{lines_of}
use Rattle.uc_script.proofs.FirstLines.{lines_of-nil, numbered-parts}
use Rattle.uc_script.proofs.rest.Rest.next_line.Goals as goal

pub returns-then-is_empty : goal.returns-then-is_empty
returns-then-is_empty c =
    let none : c.self.inside.text.now ≡ [] = nil_from_length c.self.inside.text.now (grind (arith, nat_tests)) in
    let done = sym c.self.view_is ∙ ap (λ text. enumerate_from c.self.inside.number (lines_of text)) none ∙ ap (enumerate_from c.self.inside.number) lines_of-nil in
    (done, done)

pub returns : goal.returns
returns c =
    let some : 0 < length c.self.inside.text.now = grind (arith, nat_tests) in
    sym c.self.view_is ∙ numbered-parts c.self.inside.number c.self.inside.text.now _ _ some c.split_line.ensures.line c.split_line.ensures.rest
