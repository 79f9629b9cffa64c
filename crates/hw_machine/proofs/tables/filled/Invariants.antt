use Rattle.std.proofs.Common.{◌≡◌, length, replicate}
use Rattle.hw_machine.proofs.tables.filled.Given as goal

-- as many so far as there were turns
abbrev pub invariant-loop-place : goal.invariant-loop-place
invariant-loop-place g l = record {
  size : length l.table.items ≡ l._place;
  items : l.table.items ≡ replicate l._place l.value;
}
