use Rattle.std.proofs.Common.{◌≡◌, ◌++◌, take}
use Rattle.std.specs.List.{flat_map}
use Rattle.uc_gen.proofs.pushing.push_pieces.Given as goal

abbrev pub invariant-pieces : goal.invariant-pieces
invariant-pieces l =
    l.bytes.items ≡ l.initial.bytes.items ++ flat_map (λ piece. piece.now) (take l.piece-index l.pieces)
