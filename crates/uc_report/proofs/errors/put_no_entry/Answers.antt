use Rattle.uc_report.proofs.errors.put_no_entry.Goals as goal

pub returns : goal.returns
returns g c =
    rw (← c.dec-number.ensures, ← c.as_slice.ensures.value) c.write_line.ensures
