-- What was handed on are whole blocks, and what is held and the rest come behind them.
use Rattle.std.proofs.Common.{◌≡◌, List, ℕ, ◌+◌, ◌++◌, ◌%◌, length}
use Rattle.std.specs.Io.KnownBytes.{Appends}
use Rattle.arrayvec.specs.ArrayVec.{array_vec_len}
use Rattle.uc_io.proofs.gathering.gather.Given as goal

abbrev pub invariant-loop-rest : goal.invariant-loop-rest
invariant-loop-rest g l =
    (before : List ℕ) × (done : List ℕ) × (l.piece ≡ before ++ l.rest) × (l.initial.held.items ++ before ≡ done ++ l.held.items) × (length done % 65536 ≡ 0)
    × Appends (g.W.Write.contents l.initial.to) (g.W.Write.contents l.to) done

abbrev pub decreases-loop-rest : goal.decreases-loop-rest
decreases-loop-rest g l = array_vec_len l.held + length l.rest
