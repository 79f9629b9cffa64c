use Rattle.std.proofs.Common.{List, ℕ, ap, ◌∙◌, length, arith}
use Rattle.amd_format.specs.Equiv.{row_at}
use Rattle.amd_equiv.proofs.Rows.{row-in-rows, row-within}
use Rattle.amd_equiv.proofs.table.EquivTable.row.Goals as goal

pub word_at-requires : goal.word_at-requires
word_at-requires c = omega (arith, row-within c.args.self.now c.args.i c.requires, ap length c.table-table.ensures)

pub half_at-requires : goal.half_at-requires
half_at-requires c = omega (arith, row-within c.args.self.now c.args.i c.requires, ap length c.table-table.ensures)

pub returns : goal.returns
returns c = rw (c.word_at.ensures, c.half_at.ensures) (ap (λ (l : List ℕ). row_at l c.args.i) c.table-table.ensures ∙ row-in-rows c.args.self.now c.args.i c.requires)
