-- No check fails at the front of a container, or of a section, whatever follows it.
use Rattle.std.proofs.Common.{◌≡◌, ⊎_elim, ℕ, ◌+◌, ◌<◌, List, ◌++◌, length, sym, ◌∙◌, ap, subst, arith, length-append, length-drop}
use Rattle.std.proofs.lemmas.List.{drop-append-le}
use Rattle.uc_bytes.specs.Words.{word}
use Rattle.uc_bytes.specs.declared.causes.FileCause.{FileCause}
use Rattle.uc_bytes.specs.declared.causes.FileCause.TheVariants.{EquivShort, Magic, EquivType, TableSmall, TableCut, SectionShort, SectionType, PatchSmall, PatchCut, FamilySize, Chipset, TooMany}
use Rattle.amd_format.specs.Equiv.{IsEquiv}
use Rattle.amd_format.specs.Patch.{IsSection, PastBound, patch_family, patch_id, patch_of, north_device, south_device}
use Rattle.amd_format.specs.Checks.{EquivFails, SectionFails}
use Rattle.uc_bytes.proofs.Fronts.{word-append, half-append}

-- what follows a head with its table does not change the table's length
pub table_length : (e rest : List ℕ) → IsEquiv e → length e ≡ 12 + word (e ++ rest) 8
table_length e rest is = is.whole ∙ ap (λ (k : ℕ). 12 + k) (sym (word-append e rest 8 (omega (arith, is.head))))

-- what follows a section does not change its patch's length
pub patch_length : (s rest : List ℕ) → IsSection s → length s ≡ 8 + word (s ++ rest) 4
patch_length s rest is = is.whole ∙ ap (λ (k : ℕ). 8 + k) (sym (word-append s rest 4 (omega (arith, is.head))))

-- no check of a container fails at its head and table
pub equiv_passes : (e rest : List ℕ) (cause : FileCause) → IsEquiv e → EquivFails (e ++ rest) cause → ⊥
equiv_passes e rest EquivShort is fails = omega (arith, is.head, length-append e rest)
equiv_passes e rest Magic is fails = fails (word-append e rest 0 (omega (arith, is.head)) ∙ is.magic)
equiv_passes e rest EquivType is fails = fails (word-append e rest 4 (omega (arith, is.head)) ∙ is.kind)
equiv_passes e rest TableSmall is fails = omega (arith, is.some_row, is.whole, table_length e rest is)
equiv_passes e rest TableCut is fails = omega (arith, table_length e rest is, length-append e rest)
equiv_passes e rest cause is fails = absurd fails

module _ (s rest : List ℕ) (is : IsSection s) where
  -- the patch stands in front of what follows
  patch_in_front : patch_of (s ++ rest) ≡ patch_of s ++ rest
  patch_in_front = drop-append-le 8 s rest is.head

  -- its size is the one that the head states
  same_size : word (s ++ rest) 4 ≡ length (patch_of s)
  same_size = omega (arith, patch_length s rest is, length-drop 8 s)

  -- its id reads the same
  same_id : patch_id (patch_of (s ++ rest)) ≡ patch_id (patch_of s)
  same_id = ap patch_id patch_in_front ∙ half-append (patch_of s) rest 24 (omega (arith, is.patch.header))

  -- its north device reads the same
  same_north : north_device (patch_of (s ++ rest)) ≡ north_device (patch_of s)
  same_north = ap north_device patch_in_front ∙ word-append (patch_of s) rest 16 (omega (arith, is.patch.header))

  -- and its south device
  same_south : south_device (patch_of (s ++ rest)) ≡ south_device (patch_of s)
  same_south = ap south_device patch_in_front ∙ word-append (patch_of s) rest 20 (omega (arith, is.patch.header))

  -- it is within the bound of its family
  in_bound : PastBound (patch_family (patch_id (patch_of (s ++ rest)))) (word (s ++ rest) 4) → ⊥
  in_bound past =
      is.patch.bounded
      (subst (λ (n : ℕ). PastBound (patch_family (patch_id (patch_of s))) n) same_size
      (subst (λ (id : ℕ). PastBound (patch_family id) (word (s ++ rest) 4)) same_id past))

  -- no check of a section fails at it, where fewer than 65,536 patches stand before it
  pub section_passes : (before : ℕ) (cause : FileCause) → before < 65536 → SectionFails before (s ++ rest) cause → ⊥
  section_passes before SectionShort few fails = omega (arith, is.head, length-append s rest)
  section_passes before SectionType few fails = fails (word-append s rest 0 (omega (arith, is.head)) ∙ is.kind)
  section_passes before PatchSmall few fails = omega (arith, same_size, is.patch.header)
  section_passes before PatchCut few fails = omega (arith, patch_length s rest is, length-append s rest)
  section_passes before FamilySize few fails = in_bound fails
  section_passes before Chipset few fails =
      ⊎_elim (λ other. other (same_north ∙ is.patch.no_north)) (λ other. other (same_south ∙ is.patch.no_south)) fails
  section_passes before TooMany few fails = omega arith
  section_passes before cause few fails = absurd fails
