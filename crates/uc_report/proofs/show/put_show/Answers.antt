use Rattle.uc_io.proofs.Writes.{Writes-then, Writes-more}
use Rattle.uc_report.proofs.show.put_show.Goals as goal

-- a line that was not written is a front of all
pub returns-in_err-put_entry_line : goal.returns-in_err-put_entry_line
returns-in_err-put_entry_line g c = λ date_text are.
    rw (← c.entry.ensures) (Writes-more g.S.Sink.stands g.S.Sink.faults _ _ _ _ _ _ c.from_residual.ensures.0 (c.in_err-put_entry_line.ensures date_text are))

pub returns : goal.returns
returns g c = λ date_text are.
    rw (← c.entry.ensures, ← c.bytes_of.ensures.bytes) (Writes-then g.S.Sink.stands g.S.Sink.faults _ _ _ _ _ _ (c.in_ok-put_entry_line.ensures date_text are) c.put_bytes.ensures)
