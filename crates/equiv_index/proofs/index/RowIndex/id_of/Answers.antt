use Rattle.std.proofs.Common.{◌≡◌, ℕ, List, Some, None, sym, ◌∙◌, ap}
use Rattle.amd_format.specs.Equiv.{id_of}
use Rattle.equiv_index.specs.declared.row.Row.{Row}
use Rattle.equiv_index.specs.Rows.{numbered, first_with, rows_in}
use Rattle.equiv_index.proofs.FirstRows.{id_in, id_in_first}
use Rattle.equiv_index.proofs.index.RowIndex.id_of.Goals as goal

pub returns-in-Some : goal.returns-in-Some
returns-in-Some c =
    let rows = rows_in c.self.inside.by_sig.items in
    let found : Some c.in-Some.row ≡ first_with (numbered 0 rows) c.args.sig = c.in-Some.ensures ∙ ap (λ (l : List Row). first_with l c.args.sig) c.as_slice.ensures.value ∙ c.self.invariant.by_sig.first c.args.sig in
    ap id_in found ∙ sym (id_in_first 0 rows c.args.sig) ∙ ap (λ (l : List (ℕ × ℕ)). id_of l c.args.sig) c.self.view_is

pub returns-in-None : goal.returns-in-None
returns-in-None c =
    let rows = rows_in c.self.inside.by_sig.items in
    let found : None ≡ first_with (numbered 0 rows) c.args.sig = c.in-None.ensures ∙ ap (λ (l : List Row). first_with l c.args.sig) c.as_slice.ensures.value ∙ c.self.invariant.by_sig.first c.args.sig in
    ap id_in found ∙ sym (id_in_first 0 rows c.args.sig) ∙ ap (λ (l : List (ℕ × ℕ)). id_of l c.args.sig) c.self.view_is
