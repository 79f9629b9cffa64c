use Rattle.std.proofs.Common.{◌≡◌, ℕ, ◌+◌, ◌<◌, List, ◌∷◌, [], ◌++◌, length, get_or, take, sym, ◌∙◌, ap, arith}
use Rattle.std.proofs.lemmas.List.{take_more, length-take-le}
use Rattle.equiv_index.specs.declared.row.Row.{Row}
use Rattle.equiv_index.specs.Rows.{numbered}
use Rattle.equiv_index.proofs.FirstRows.{at_number, numbered_push}
use Rattle.equiv_index.proofs.index.numbered_rows.Goals as goal

pub rows-preserved : goal.rows-preserved
rows-preserved c =
    let rows = c.args.rows.now in
    let at = c.rows.number in
    let row = get_or rows at (0, 0) in
    let within : at < length rows = omega (arith, c.rows-test.true) in
    let counted : at ≡ 0 + length (take at rows) = omega (arith, length-take-le at rows (omega arith)) in
    c.in_ok-push.ensures.items
    ∙ ap (λ (l : List Row). l ++ at_number at row ∷ []) c.rows.invariant
    ∙ sym (numbered_push 0 at (take at rows) row counted)
    ∙ ap (λ (l : List (ℕ × ℕ)). numbered 0 l) (sym (take_more rows at (0, 0) within))
