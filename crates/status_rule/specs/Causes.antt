-- Which statuses go with which counts of faults.
use Rattle.std.specs.Prelude.{◌≡◌, ℕ}
use Rattle.uc_io.specs.Faults.{Rose}
use Rattle.status_rule.specs.declared.status.Status.{Status}
use Rattle.status_rule.specs.declared.status.Status.TheVariants.{ReadFault, WriteFault, NoMemory}

-- a read fault exactly where the files' count rose, but after a write fault or want of memory
abbrev pub ReadCause : ℕ → ℕ → Status → Type 0
ReadCause before now ReadFault = Rose before now
ReadCause before now WriteFault = Unit {0}
ReadCause before now NoMemory = Unit {0}
ReadCause before now status = now ≡ before

-- a write fault exactly where the sink's count rose
abbrev pub WriteCause : ℕ → ℕ → Status → Type 0
WriteCause before now WriteFault = Rose before now
WriteCause before now status = now ≡ before
