-- What an update file is read as.
use Rattle.std.specs.Prelude.{◌≡◌, ◌⊎◌, ℕ, ◌≤◌, List, length}
use Rattle.uc_bytes.specs.Words.{word}
use Rattle.uc_bytes.specs.declared.causes.FileCause.{FileCause}
use Rattle.intel_format.specs.File as intel
use Rattle.amd_format.specs.Equiv.{amd_magic}
use Rattle.amd_format.specs.File as amd
use Rattle.amd_format.specs.Checks as amd_checks

-- A file is AMD exactly where the magic of a container begins it.
abbrev pub IsAmd : List ℕ → Type 0
IsAmd bytes = (4 ≤ length bytes) × (word bytes 0 ≡ amd_magic)

pub data Reading : Type 0 where
  OfIntel : List intel.FileUpdate → Reading
  OfAmd : List amd.FileContainer → Reading

abbrev pub IsReading : List ℕ → Reading → Type 0
IsReading bytes (OfIntel updates) =
    (IsAmd bytes → ⊥) × intel.IntelFile bytes updates
IsReading bytes (OfAmd containers) =
    IsAmd bytes × amd.AmdFile bytes containers

-- where and why bytes have no reading
abbrev pub HasFault : List ℕ → ℕ → FileCause → Type 0
HasFault bytes offset cause =
    ((IsAmd bytes → ⊥) × intel.IsFault bytes offset cause) ⊎ (IsAmd bytes × amd_checks.IsFault bytes offset cause)
