-- What the reading of an extended signature table gives.
use Rattle.std.specs.Prelude.{ℕ, List, Result, Ok, Err}
use Rattle.uc_bytes.specs.declared.causes.FileCause.{FileCause}
use Rattle.uc_bytes.specs.declared.causes.FileCause.TheVariants as causes
use Rattle.intel_format.specs.Update.{IsExtTable}
use Rattle.intel_format.specs.Checks.{IsFirstTableFault}
use Rattle.intel_ext.specs.declared.fault.ExtFault.{ExtFault}
use Rattle.intel_ext.specs.declared.fault.ExtFault.TheVariants.{Cut, CountMismatch, TableSum, EntrySum}

-- the cause of a file that a table's fault is
abbrev pub cause_of : ExtFault → FileCause
cause_of Cut = causes.ExtCut
cause_of CountMismatch = causes.ExtCount
cause_of TableSum = causes.ExtSum
cause_of (EntrySum i) = causes.EntrySum i

-- the pairs of the table, where it is one; else the first check that fails
abbrev pub IsTableRead : ℕ → List ℕ → Result (List (ℕ × ℕ)) ExtFault → Type 0
IsTableRead triple table (Ok pairs) = IsExtTable triple table pairs
IsTableRead triple table (Err fault) = IsFirstTableFault triple table (cause_of fault)
