use Rattle.std.proofs.Common.{◌≡◌, ℕ, ◌+◌, ◌-◌, ◌≤◌, List, ◌++◌, length, take}
use Rattle.amd_file.specs.Parser.{fed_of}
use Rattle.file_rows.specs.PatchWalk.{Gathers}
use Rattle.file_rows.proofs.patch_walk.gather_piece.Given as goal

abbrev pub invariant-piece : goal.invariant-piece
invariant-piece l = record {
  within : l.at ≤ length l.piece;
  fed : fed_of l.parser ≡ fed_of l.initial.parser + l.at;
  few_table : length l.gathered.table.items ≤ fed_of l.parser;
  few_fresh : length l.gathered.fresh.items ≤ fed_of l.parser;
  gathers : (bytes : List ℕ) → Gathers bytes l.initial.parser l.initial.gathered → Gathers (bytes ++ take l.at l.piece) l.parser l.gathered;
  rows : take (length l.initial.gathered.rows.rows.items) l.gathered.rows.rows.items ≡ l.initial.gathered.rows.rows.items;
  tables : take (length l.initial.gathered.rows.tables.items) l.gathered.rows.tables.items ≡ l.initial.gathered.rows.tables.items;
  table : take (length l.initial.gathered.table.items) l.gathered.table.items ≡ l.initial.gathered.table.items;
}

abbrev pub decreases-piece : goal.decreases-piece
decreases-piece l = length l.piece - l.at
