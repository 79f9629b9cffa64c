use Rattle.std.proofs.Common.{◌≡◌, ℕ, ◌+◌, ◌-◌, ◌≤◌, List, ◌++◌, length, take}
use Rattle.uc_bytes.specs.declared.TheConstants.{FILE_LIMIT}
use Rattle.file_rows.specs.UpdateWalk.{Lists}
use Rattle.file_rows.proofs.update_walk.walk_piece.Given as goal

abbrev pub invariant-walk : goal.invariant-walk
invariant-walk l = record {
  within : l.at ≤ length l.piece;
  few : length l.rows.pairs.items ≤ length l.initial.rows.pairs.items + l.at;
  rows : take (length l.initial.rows.rows.items) l.rows.rows.items ≡ l.initial.rows.rows.items;
  pairs : take (length l.initial.rows.pairs.items) l.rows.pairs.items ≡ l.initial.rows.pairs.items;
  walked : (bytes : List ℕ) → Lists l.initial.walk l.initial.rows bytes → length bytes + length l.piece ≤ FILE_LIMIT → Lists l.walk l.rows (bytes ++ take l.at l.piece);
}

abbrev pub decreases-walk : goal.decreases-walk
decreases-walk l = length l.piece - l.at
