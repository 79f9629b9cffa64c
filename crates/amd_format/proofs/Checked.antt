-- All checks of a container, or of a section, pass at bytes, or one is the first that fails.
use Rattle.std.proofs.Common.{◌⊎◌, inr, ℕ, List}
use Rattle.std.proofs.lemmas.Bool.{cases_eq}
use Rattle.fault_rule.specs.Checks.{AllPass}
use Rattle.fault_rule.proofs.Decided.{Decided, decided_not_equal, decided_lt, decided_le, either, both, three}
use Rattle.fault_rule.proofs.Search.{searched}
use Rattle.uc_bytes.specs.declared.causes.FileCause.{FileCause}
use Rattle.uc_bytes.specs.declared.causes.FileCause.TheVariants.{EquivShort, Magic, EquivType, TableSmall, TableCut, SectionShort, SectionType, PatchSmall, PatchCut, FamilySize, Chipset, TooMany}
use Rattle.amd_format.specs.Patch.{PastBound}
use Rattle.amd_format.specs.Checks.{EquivFails, SectionFails, equiv_checks, section_checks, IsFirstEquivFault, IsFirstSectionFault}

-- a check of a container fails or passes
equiv_decided : (bytes : List ℕ) (cause : FileCause) → Decided (EquivFails bytes cause)
equiv_decided bytes EquivShort = decided_lt _ _
equiv_decided bytes Magic = decided_not_equal _ _
equiv_decided bytes EquivType = decided_not_equal _ _
equiv_decided bytes TableSmall = decided_lt _ _
equiv_decided bytes TableCut = decided_lt _ _
equiv_decided bytes cause = inr (λ fails. fails)

-- a size is past the bound of a family or is not
decided_past : (family size : ℕ) → Decided (PastBound family size)
decided_past family size =
    either (three (decided_le _ _) (decided_le _ _) (decided_lt _ _)) (both (cases_eq _ _) (decided_lt _ _))

-- a check of a section fails or passes
section_decided : (before : ℕ) (bytes : List ℕ) (cause : FileCause) → Decided (SectionFails before bytes cause)
section_decided before bytes SectionShort = decided_lt _ _
section_decided before bytes SectionType = decided_not_equal _ _
section_decided before bytes PatchSmall = decided_lt _ _
section_decided before bytes PatchCut = decided_lt _ _
section_decided before bytes FamilySize = decided_past _ _
section_decided before bytes Chipset = either (decided_not_equal _ _) (decided_not_equal _ _)
section_decided before bytes TooMany = decided_le _ _
section_decided before bytes cause = inr (λ fails. fails)

pub equiv_checked : (bytes : List ℕ) → ((cause : FileCause) × IsFirstEquivFault bytes cause) ⊎ AllPass (EquivFails bytes) equiv_checks
equiv_checked bytes = searched (EquivFails bytes) (equiv_decided bytes) equiv_checks

pub section_checked : (before : ℕ) (bytes : List ℕ) → ((cause : FileCause) × IsFirstSectionFault before bytes cause) ⊎ AllPass (SectionFails before bytes) section_checks
section_checked before bytes = searched (SectionFails before bytes) (section_decided before bytes) section_checks
