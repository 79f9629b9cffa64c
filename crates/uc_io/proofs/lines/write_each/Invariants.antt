use Rattle.std.proofs.Common.{Ok, take}
use Rattle.std.specs.List.{flat_map}
use Rattle.uc_io.specs.declared.sinks.SinkFailed.{SinkFailed}
use Rattle.uc_io.specs.Writing.{Writes}
use Rattle.uc_io.proofs.lines.write_each.Given as goal

abbrev pub invariant-loop-piece : goal.invariant-loop-piece
invariant-loop-piece g l =
    Writes {E = SinkFailed} g.S.Sink.stands g.S.Sink.faults l.initial.out l.out (flat_map (λ piece. piece.now) (take l.piece-index l.pieces)) (Ok tt)
