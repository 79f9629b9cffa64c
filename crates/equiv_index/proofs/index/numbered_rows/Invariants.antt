use Rattle.std.proofs.Common.{◌≡◌, take}
use Rattle.equiv_index.specs.Rows.{numbered}
use Rattle.equiv_index.proofs.index.numbered_rows.Given as goal

abbrev pub invariant-rows : goal.invariant-rows
invariant-rows l = l.numbered.items ≡ numbered 0 (take l.number l.rows)
