use Rattle.script_text.specs.Lines.{script_line}
use Rattle.uc_script.proofs.refusal.put_script_fault.Goals as goal

pub returns : goal.returns
unfolding script_line
returns g c =
    rw (← c.from.ensures, ← c.dec-line.ensures, ← c.as_slice.ensures.value, ← c.script_cause-cause.ensures, ← c.as_bytes.ensures.value) c.write_line.ensures
