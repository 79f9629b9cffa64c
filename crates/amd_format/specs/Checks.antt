-- The checks of a file, in their order. The first that fails is the fault.
use Rattle.std.specs.Prelude.{◌≡◌, ◌≢◌, ◌⊎◌, ℕ, ◌+◌, ◌<◌, ◌≤◌, List, [], ◌∷◌, ◌++◌, length, take}
use Rattle.fault_rule.specs.Checks.{IsFirst}
use Rattle.uc_bytes.specs.declared.causes.FileCause.{FileCause}
use Rattle.uc_bytes.specs.declared.causes.FileCause.TheVariants.{EquivShort, Magic, EquivType, TableSmall, TableCut, SectionShort, SectionType, PatchSmall, PatchCut, FamilySize, Chipset, TooMany}
use Rattle.uc_bytes.specs.Words.{word}
use Rattle.amd_format.specs.Equiv.{amd_magic}
use Rattle.amd_format.specs.Patch.{patch_family, patch_id, patch_of, north_device, south_device, PastBound}
use Rattle.amd_format.specs.File.{FileContainer, AreContainers, AmdFile, joined, patches_in}

-- the check that a cause names fails at the container that begins the bytes
abbrev pub EquivFails : List ℕ → FileCause → Type 0
EquivFails bytes EquivShort = length bytes < 12
EquivFails bytes Magic = word bytes 0 ≢ amd_magic
EquivFails bytes EquivType = word bytes 4 ≢ 0
EquivFails bytes TableSmall = word bytes 8 < 16
EquivFails bytes TableCut = length bytes < 12 + word bytes 8
EquivFails bytes cause = ⊥

-- the check that a cause names fails at the section that begins the bytes, where so many patches stand before it
abbrev pub SectionFails : ℕ → List ℕ → FileCause → Type 0
SectionFails before bytes SectionShort = length bytes < 8
SectionFails before bytes SectionType = word bytes 0 ≢ 1
SectionFails before bytes PatchSmall = word bytes 4 < 64
SectionFails before bytes PatchCut = length bytes < 8 + word bytes 4
SectionFails before bytes FamilySize = PastBound (patch_family (patch_id (patch_of bytes))) (word bytes 4)
SectionFails before bytes Chipset =
    (north_device (patch_of bytes) ≢ 0) ⊎ (south_device (patch_of bytes) ≢ 0)
SectionFails before bytes TooMany = 65536 ≤ before
SectionFails before bytes cause = ⊥

-- the checks of a container, in their order
abbrev pub equiv_checks : List FileCause
equiv_checks = EquivShort ∷ Magic ∷ EquivType ∷ TableSmall ∷ TableCut ∷ []

-- the checks of a section, in their order
abbrev pub section_checks : List FileCause
section_checks = SectionShort ∷ SectionType ∷ PatchSmall ∷ PatchCut ∷ FamilySize ∷ Chipset ∷ TooMany ∷ []

-- the cause is the first check of a container that fails
abbrev pub IsFirstEquivFault : List ℕ → FileCause → Type 0
IsFirstEquivFault bytes = IsFirst (EquivFails bytes) equiv_checks

-- the same of a section
abbrev pub IsFirstSectionFault : ℕ → List ℕ → FileCause → Type 0
IsFirstSectionFault before bytes = IsFirst (SectionFails before bytes) section_checks

-- After these containers a container begins: at the file's begin, whatever stands there, and later where the magic does.
-- Everything else that stands after a container is a section.
abbrev pub BeginsContainer : List FileContainer → List ℕ → Type 0
BeginsContainer containers rest =
    (containers ≡ []) ⊎ ((4 ≤ length rest) × (word rest 0 ≡ amd_magic))

-- the first check that fails of what begins after these containers
abbrev pub IsFirstFault : List FileContainer → List ℕ → FileCause → Type 0
IsFirstFault containers rest cause =
    (BeginsContainer containers rest × IsFirstEquivFault rest cause)
    ⊎ ((BeginsContainer containers rest → ⊥) × IsFirstSectionFault (patches_in containers) rest cause)

-- The bytes are no AMD file: where the longest front ends that is one, or is empty, and the first check that fails of the
-- rest. An empty rest is one only at the file's begin.
pub record IsFault (bytes : List ℕ) (offset : ℕ) (cause : FileCause) : Type 0 where
  pub containers : List FileContainer
  pub rest : List ℕ
  pub split : bytes ≡ joined containers ++ rest
  pub each : AreContainers containers
  pub few : patches_in containers ≤ 65536
  pub place : offset ≡ length (joined containers)
  pub left : (containers ≡ []) ⊎ (0 < length rest)
  pub longest : (n : ℕ) (others : List FileContainer) → offset < n → n ≤ length bytes → AmdFile (take n bytes) others → ⊥
  pub first : IsFirstFault containers rest cause
