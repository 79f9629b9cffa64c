use Rattle.std.proofs.Common.{◌≡◌, take}
use Rattle.std.specs.Prelude.{count_by}
use Rattle.equiv_index.specs.Rows.{is_first}
use Rattle.equiv_index.proofs.index.count_first.Given as goal

abbrev pub invariant-rows : goal.invariant-rows
invariant-rows l = l.count ≡ count_by (is_first l.by_sig) (take l.at l.by_sig)
