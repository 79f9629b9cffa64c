-- The first check that fails is the first, whatever follows the bytes, where it does not say that they are cut off.
use Rattle.std.proofs.Common.{◌≡◌, ◌≢◌, inl, inr, ℕ, ◌+◌, ◌<◌, ◌≤◌, List, [], ◌∷◌, ◌++◌, length, sym, ◌∙◌, ap, subst, arith, append_assoc, length-append, length-drop}
use Rattle.std.specs.Prelude.{◌⊎◌}
use Rattle.std.proofs.lemmas.List.{drop-append-le}
use Rattle.fault_rule.proofs.Alike.{said_of_same, said_through, AreAlike, first_alike, pass_alike}
use Rattle.fault_rule.proofs.Search.{first_in_front, first_behind, front_or_behind}
use Rattle.uc_bytes.specs.Words.{word}
use Rattle.uc_bytes.specs.declared.causes.FileCause.{FileCause}
use Rattle.uc_bytes.specs.declared.causes.FileCause.TheVariants.{EquivShort, Magic, EquivType, TableSmall, TableCut, SectionShort, SectionType, PatchSmall, PatchCut, FamilySize, Chipset, TooMany}
use Rattle.uc_bytes.proofs.Fronts.{word-append, half-append}
use Rattle.amd_format.specs.Equiv.{amd_magic}
use Rattle.amd_format.specs.Patch.{PastBound, patch_family, patch_id, patch_of, north_device, south_device}
use Rattle.amd_format.specs.File.{FileContainer, joined, patches_in}
use Rattle.amd_format.specs.Checks.{EquivFails, SectionFails, IsFirstEquivFault, IsFirstSectionFault, BeginsContainer, IsFirstFault, IsFault}
use Rattle.amd_format.specs.Settled.{IsCut, IsSettled}
use Rattle.amd_format.proofs.Begins.{at_least}
use Rattle.amd_format.proofs.ReadingOrFault.{fault_of}

module _ (bytes more : List ℕ) where
  -- a word that stands in the bytes
  of_word : (at : ℕ) → at + 4 ≤ length bytes → (P : ℕ → Type 0) → (P (word bytes at) → P (word (bytes ++ more) at)) × (P (word (bytes ++ more) at) → P (word bytes at))
  of_word at inside = said_of_same (sym (word-append bytes more at inside))

  -- ---- a container

  -- the checks of its head
  abbrev head_checks : List FileCause
  head_checks = EquivShort ∷ Magic ∷ EquivType ∷ TableSmall ∷ []

  head_alike : 12 ≤ length bytes → AreAlike (EquivFails bytes) (EquivFails (bytes ++ more)) head_checks
  head_alike long =
      let short : (length bytes < 12 → length (bytes ++ more) < 12) × (length (bytes ++ more) < 12 → length bytes < 12) =
      (λ fails. absurd (omega (arith, long, fails)), λ fails. omega (arith, fails, length-append bytes more)) in
      (short, (of_word 0 (omega (arith, long)) (λ w. w ≢ amd_magic), (of_word 4 (omega (arith, long)) (λ w. w ≢ 0), (of_word 8 (omega (arith, long)) (λ w. w < 16), tt))))

  equiv_stays : (cause : FileCause) → (IsCut cause → ⊥) → IsFirstEquivFault bytes cause → IsFirstEquivFault (bytes ++ more) cause
  equiv_stays cause uncut (inl short) = absurd (uncut (subst IsCut (sym short.1) tt))
  equiv_stays cause uncut (inr (long, first)) = elim (front_or_behind (EquivFails bytes) (TableCut ∷ []) head_checks cause (inr (long, first))) [
    | inl head ↦
        first_in_front (EquivFails (bytes ++ more)) (TableCut ∷ []) head_checks cause (first_alike (EquivFails bytes) (EquivFails (bytes ++ more)) head_checks cause (head_alike (at_least long)) head)
    | inr (pass, inl cut) ↦ absurd (uncut (subst IsCut (sym cut.1) tt))
    | inr (pass, inr (whole, none)) ↦ absurd none
  ]

  -- ---- a section

  module _ (before : ℕ) where
    abbrev Here : FileCause → Type 0
    Here = SectionFails before bytes

    abbrev Longer : FileCause → Type 0
    Longer = SectionFails before (bytes ++ more)

    -- the checks of its head, and those of its patch
    abbrev size_checks : List FileCause
    size_checks = SectionShort ∷ SectionType ∷ PatchSmall ∷ []

    abbrev patch_checks : List FileCause
    patch_checks = FamilySize ∷ Chipset ∷ TooMany ∷ []

    size_alike : 8 ≤ length bytes → AreAlike Here Longer size_checks
    size_alike long =
        let short : (Here SectionShort → Longer SectionShort) × (Longer SectionShort → Here SectionShort) =
        (λ fails. absurd (omega (arith, long, fails)), λ fails. omega (arith, fails, length-append bytes more)) in
        (short, (of_word 0 (omega (arith, long)) (λ w. w ≢ 1), (of_word 4 (omega (arith, long)) (λ w. w < 64), tt)))

    module _ (some : 64 ≤ word bytes 4) (whole : 8 + word bytes 4 ≤ length bytes) where
      same_size : word (bytes ++ more) 4 ≡ word bytes 4
      same_size = word-append bytes more 4 (omega (arith, whole))

      longer_patch : patch_of (bytes ++ more) ≡ patch_of bytes ++ more
      longer_patch = drop-append-le 8 bytes more (omega (arith, whole))

      header_long : 64 ≤ length (patch_of bytes)
      header_long = omega (arith, some, whole, length-drop 8 bytes)

      same_id : patch_id (patch_of (bytes ++ more)) ≡ patch_id (patch_of bytes)
      same_id = ap patch_id longer_patch ∙ half-append (patch_of bytes) more 24 (omega (arith, header_long))

      same_north : north_device (patch_of (bytes ++ more)) ≡ north_device (patch_of bytes)
      same_north = ap north_device longer_patch ∙ word-append (patch_of bytes) more 16 (omega (arith, header_long))

      same_south : south_device (patch_of (bytes ++ more)) ≡ south_device (patch_of bytes)
      same_south = ap south_device longer_patch ∙ word-append (patch_of bytes) more 20 (omega (arith, header_long))

      not_cut : Longer PatchCut → ⊥
      not_cut fails = omega (arith, whole, same_size, fails, length-append bytes more)

      patch_alike : AreAlike Here Longer patch_checks
      patch_alike =
          let size = said_through
          (said_of_same (sym same_id) (λ id. PastBound (patch_family id) (word bytes 4)))
          (said_of_same (sym same_size) (λ size. PastBound (patch_family (patch_id (patch_of (bytes ++ more)))) size)) in
          let device = said_through
          (said_of_same (sym same_north) (λ north. (north ≢ 0) ⊎ (south_device (patch_of bytes) ≢ 0)))
          (said_of_same (sym same_south) (λ south. (north_device (patch_of (bytes ++ more)) ≢ 0) ⊎ (south ≢ 0))) in
          (size, (device, ((λ many. many, λ many. many), tt)))

    section_stays : (cause : FileCause) → (IsCut cause → ⊥) → IsFirstSectionFault before bytes cause → IsFirstSectionFault before (bytes ++ more) cause
    section_stays cause uncut (inl short) = absurd (uncut (subst IsCut (sym short.1) tt))
    section_stays cause uncut (inr (long, first)) =
        let alike = size_alike (at_least long) in
        elim (front_or_behind Here (PatchCut ∷ patch_checks) size_checks cause (inr (long, first))) [
          | inl size ↦ first_in_front Longer (PatchCut ∷ patch_checks) size_checks cause (first_alike Here Longer size_checks cause alike size)
          | inr (pass, inl cut) ↦ absurd (uncut (subst IsCut (sym cut.1) tt))
          | inr (pass, inr (whole, patch)) ↦
              let some = at_least pass.1.1.0 in
              first_behind Longer (PatchCut ∷ patch_checks) size_checks cause (pass_alike Here Longer size_checks alike pass)
              (inr (not_cut some (at_least whole), first_alike Here Longer patch_checks cause (patch_alike some (at_least whole)) patch))
        ]

-- a container that begins at bytes begins there whatever follows
begins_stays : (cs : List FileContainer) (bytes more : List ℕ) → BeginsContainer cs bytes → BeginsContainer cs (bytes ++ more)
begins_stays cs bytes more (inl none) = inl none
begins_stays cs bytes more (inr (long, magic)) =
    inr (omega (arith, long, length-append bytes more), word-append bytes more 0 long ∙ magic)

-- and where there are four bytes, none begins later
begins_back : (cs : List FileContainer) (bytes more : List ℕ) → 4 ≤ length bytes → BeginsContainer cs (bytes ++ more) → BeginsContainer cs bytes
begins_back cs bytes more long (inl none) = inl none
begins_back cs bytes more long (inr (longer, magic)) = inr (long, sym (word-append bytes more 0 long) ∙ magic)

first_stays : (cs : List FileContainer) (bytes more : List ℕ) (cause : FileCause) → (IsCut cause → ⊥) → IsFirstFault cs bytes cause → IsFirstFault cs (bytes ++ more) cause
first_stays cs bytes more cause uncut (inl (begins, first)) = inl (begins_stays cs bytes more begins, equiv_stays bytes more cause uncut first)
first_stays cs bytes more cause uncut (inr (none, inl short)) = absurd (uncut (subst IsCut (sym short.1) tt))
first_stays cs bytes more cause uncut (inr (none, inr (long, first))) =
    let four : 4 ≤ length bytes = omega (arith, at_least long) in
    inr (λ begins. none (begins_back cs bytes more four begins), section_stays bytes more (patches_in cs) cause uncut (inr (long, first)))

pub settled_stays : (bytes more : List ℕ) (offset : ℕ) (cause : FileCause) → IsSettled bytes offset cause → IsSettled (bytes ++ more) offset cause
settled_stays bytes more offset cause (fault, uncut) =
    let cs = fault.containers in
    let split : bytes ++ more ≡ joined cs ++ (fault.rest ++ more) =
    ap (λ (l : List ℕ). l ++ more) fault.split ∙ append_assoc (joined cs) fault.rest more in
    let first : IsFirstFault cs (fault.rest ++ more) cause = first_stays cs fault.rest more cause uncut fault.first in
    let left : (cs ≡ []) ⊎ (0 < length (fault.rest ++ more)) =
    elim fault.left [ inl none ↦ inl none | inr some ↦ inr (omega (arith, some, length-append fault.rest more)) ] in
    let longer : IsFault (bytes ++ more) (length (joined cs)) cause =
    fault_of (bytes ++ more) cs (fault.rest ++ more) cause split fault.each fault.few left first in
    (subst (λ (n : ℕ). IsFault (bytes ++ more) n cause) (sym fault.place) longer, uncut)
