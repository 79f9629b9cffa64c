use Rattle.std.proofs.Common.{◌/◌, ℕ, ap, ◌∙◌, List, length}
use Rattle.amd_format.specs.Equiv.{rows_of}
use Rattle.amd_equiv.proofs.Rows.{count-of-rows}
use Rattle.amd_equiv.proofs.table.EquivTable.rows.Goals as goal

pub returns : goal.returns
returns c = ap (λ (n : ℕ). n / 16) c.word_at.ensures ∙ count-of-rows _ c.self.invariant ∙ ap (λ (l : List ℕ). length (rows_of l)) c.self.view_is
