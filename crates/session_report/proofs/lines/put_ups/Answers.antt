use Rattle.std.proofs.Common.{arith}
use Rattle.uc_io.proofs.Writes.{Writes-cut}
use Rattle.session_text.specs.Lines.{up_line}
use Rattle.session_report.proofs.lines.put_ups.Goals as goal

pub returns-in_err-put_up : goal.returns-in_err-put_up
returns-in_err-put_up g c =
    Writes-cut g.S.Sink.stands g.S.Sink.faults _ _ _ up_line c.args.ups.now c.loop-up.up-index _ _ c.from_residual.result (omega arith) c.from_residual.ensures.0 c.loop-up.invariant c.in_err-put_up.ensures
