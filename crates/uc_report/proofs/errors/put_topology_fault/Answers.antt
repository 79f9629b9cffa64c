use Rattle.report_text.specs.Lines.{topology_line}
use Rattle.uc_report.proofs.errors.put_topology_fault.Goals as goal

pub returns : goal.returns
unfolding topology_line
returns g c =
    rw (← c.from.ensures, ← c.dec-line.ensures, ← c.as_slice.ensures.value, ← c.topology_cause-cause.ensures, ← c.as_bytes.ensures.value) c.write_line.ensures
