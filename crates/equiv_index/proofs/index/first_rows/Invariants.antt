use Rattle.std.proofs.Common.{◌≡◌, take}
use Rattle.std.specs.Prelude.{filter}
use Rattle.equiv_index.specs.Rows.{is_first}
use Rattle.equiv_index.proofs.index.first_rows.Given as goal

abbrev pub invariant-rows : goal.invariant-rows
invariant-rows l = l.firsts.items ≡ filter (is_first l.by_sig) (take l.at l.by_sig)
