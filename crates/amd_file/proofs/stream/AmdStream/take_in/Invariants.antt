use Rattle.std.proofs.Common.{◌≡◌, ℕ, ◌+◌, ◌-◌, ◌≤◌, List, ◌++◌, length, take}
use Rattle.amd_file.specs.Stream.{Stands, fed_of}
use Rattle.amd_file.proofs.stream.AmdStream.take_in.Given as goal

abbrev pub invariant-piece : goal.invariant-piece
invariant-piece l = record {
  inside : l.at ≤ length l.piece;
  fed : fed_of l.self ≡ fed_of l.fn.self + l.at;
  stands : (bytes : List ℕ) → Stands bytes l.fn.self → Stands (bytes ++ take l.at l.piece) l.self;
  before : take (length l.fn.self.listing.patches.items) l.self.listing.patches.items ≡ l.fn.self.listing.patches.items;
}

abbrev pub decreases-piece : goal.decreases-piece
decreases-piece l = length l.piece - l.at
