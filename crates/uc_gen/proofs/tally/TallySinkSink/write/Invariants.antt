use Rattle.std.proofs.Common.{◌≡◌, ◌-◌, ◌≤◌, ◌++◌, ℕ, List, length, take, drop}
use Rattle.uc_gen.specs.Tally.{Tallies}
use Rattle.uc_gen.proofs.tally.TallySinkSink.write.Given as goal

abbrev pub invariant-lines : goal.invariant-lines
invariant-lines l = record {
  within : length l.rest ≤ length l.piece;
  rest : l.rest ≡ drop (length l.piece - length l.rest) l.piece;
  stands : (text : List ℕ) → Tallies l.fn.self text → Tallies l.self (text ++ take (length l.piece - length l.rest) l.piece);
}

abbrev pub decreases-lines : goal.decreases-lines
decreases-lines l = length l.rest
