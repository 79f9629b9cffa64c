use Rattle.std.proofs.Common.{◌≡◌, ℕ, ◌+◌, ◌-◌, ◌≤◌, List, ◌++◌, length, take}
use Rattle.uc_bytes.specs.declared.TheConstants.{FILE_LIMIT}
use Rattle.intel_file.specs.Stream.{Lists}
use Rattle.intel_file.proofs.stream.walk_piece.Given as goal

abbrev pub invariant-walk : goal.invariant-walk
invariant-walk l = record {
  within : l.at ≤ length l.piece;
  kept : take (length l.initial.updates.items) l.updates.items ≡ l.initial.updates.items;
  walked : (bytes : List ℕ) → Lists l.initial.walk l.initial.updates.items bytes → length bytes + length l.piece ≤ FILE_LIMIT → Lists l.walk l.updates.items (bytes ++ take l.at l.piece);
}

abbrev pub decreases-walk : goal.decreases-walk
decreases-walk l = length l.piece - l.at
