-- The statuses of a run.
use Rattle.std.specs.Prelude.{ℕ}
use Rattle.status_rule.specs.declared.status.Status.{Status}
use Rattle.status_rule.specs.declared.status.Status.TheVariants.{Done, Usage, BadInput, Short, ReadFault, WriteFault, Panicked, NoMemory}

-- the exit status of the process
abbrev pub code_of : Status → ℕ
code_of Done = 0
code_of (Usage k) = 1
code_of BadInput = 2
code_of Short = 3
code_of ReadFault = 4
code_of WriteFault = 5
code_of (Panicked t) = 6
code_of NoMemory = 7

-- neither a write fault nor want of memory cut the run short
abbrev pub RanToItsEnd : Status → Type 0
RanToItsEnd WriteFault = ⊥
RanToItsEnd NoMemory = ⊥
RanToItsEnd status = Unit {0}
