use Rattle.std.proofs.Common.{◌≡◌, ◌++◌, take}
use Rattle.std.specs.List.{flat_map}
use Rattle.uc_io.proofs.lines.gather.Given as goal

abbrev pub invariant-loop-piece : goal.invariant-loop-piece
invariant-loop-piece l =
    l.line.items ≡ l.initial.line.items ++ flat_map (λ piece. piece.now) (take l.piece-index l.pieces)
