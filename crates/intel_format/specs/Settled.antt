-- A fault that is the bytes' own, however many more follow.
use Rattle.std.specs.Prelude.{ℕ, List}
use Rattle.uc_bytes.specs.declared.causes.FileCause.{FileCause}
use Rattle.uc_bytes.specs.declared.causes.FileCause.TheVariants.{Short, Truncated}
use Rattle.intel_format.specs.File.{IsFault}

-- the cause says that an update is cut off
abbrev pub IsCut : FileCause → Type 0
IsCut Short = Unit {0}
IsCut Truncated = Unit {0}
IsCut cause = ⊥

-- the bytes have this fault, and it is not that the last update is cut off
abbrev pub IsSettled : List ℕ → ℕ → FileCause → Type 0
IsSettled bytes offset cause = IsFault bytes offset cause × (IsCut cause → ⊥)
