-- A fault that is the bytes' own, however many more follow.
use Rattle.std.specs.Prelude.{ℕ, List}
use Rattle.uc_bytes.specs.declared.causes.FileCause.{FileCause}
use Rattle.uc_bytes.specs.declared.causes.FileCause.TheVariants.{EquivShort, TableCut, SectionShort, PatchCut}
use Rattle.amd_format.specs.Checks.{IsFault}

-- the cause says that a container or a section is cut off
abbrev pub IsCut : FileCause → Type 0
IsCut EquivShort = Unit {0}
IsCut TableCut = Unit {0}
IsCut SectionShort = Unit {0}
IsCut PatchCut = Unit {0}
IsCut cause = ⊥

-- the bytes have this fault, and it is not that the last container or section is cut off
abbrev pub IsSettled : List ℕ → ℕ → FileCause → Type 0
IsSettled bytes offset cause = IsFault bytes offset cause × (IsCut cause → ⊥)
