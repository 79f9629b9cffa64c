use Rattle.std.proofs.Common.{arith}
use Rattle.uc_io.proofs.Writes.{Writes-cut}
use Rattle.uc_io.proofs.lines.write_each.Goals as goal

pub returns-in_err-write : goal.returns-in_err-write
returns-in_err-write g c =
    Writes-cut g.S.Sink.stands g.S.Sink.faults _ _ _ (λ piece. piece.now) c.args.pieces.now c.loop-piece.piece-index _ _ c.from_residual.result (omega arith) c.from_residual.ensures.0 c.loop-piece.invariant c.in_err-write.ensures
