-- Bytes have a reading or a fault and never both, and at most one fault.
use Rattle.std.proofs.Common.{◌≡◌, inl, inr, ℕ, ◌<◌, ◌≤◌, List, [], ◌∷◌, ◌++◌, length, take, drop, sym, ◌∙◌, ap, subst, arith, length-append, take-append-drop, length-take-le}
use Rattle.std.proofs.lemmas.List.{take_all}
use Rattle.fault_rule.proofs.Search.{first_fails, one_first}
use Rattle.uc_bytes.specs.Words.{word}
use Rattle.uc_bytes.specs.declared.causes.FileCause.{FileCause}
use Rattle.amd_format.specs.File.{FileContainer, AreContainers, AmdFile, joined, patches_in}
use Rattle.amd_format.specs.Checks.{EquivFails, SectionFails, equiv_checks, section_checks, BeginsContainer, IsFirstFault, IsFault}
use Rattle.uc_bytes.proofs.Fronts.{word-append}
use Rattle.amd_format.proofs.OneReading.{EquivFront, SectionFront, GoesOn, compare, length_parts}
use Rattle.amd_format.proofs.Passes.{equiv_passes, section_passes}

-- where a head with its table stands, a container begins
equiv_front_begins : (cs : List FileContainer) (rest : List ℕ) → EquivFront rest → BeginsContainer cs rest
equiv_front_begins cs rest front =
    inr (
      omega (arith, ap length front.split, length-append front.equiv front.rest, front.is.head),
      ap (λ (l : List ℕ). word l 0) front.split ∙ word-append front.equiv front.rest 0 (omega (arith, front.is.head)) ∙ front.is.magic,
    )

-- where a section stands behind a container, none begins
section_front_begins_none : (cs : List FileContainer) (rest : List ℕ) → 0 < length cs → SectionFront rest → BeginsContainer cs rest → ⊥
section_front_begins_none cs rest some front (inl none) = omega (arith, ap length none)
section_front_begins_none cs rest some front (inr begins) =
    let kind : word rest 0 ≡ 1 =
    ap (λ (l : List ℕ). word l 0) front.split ∙ word-append front.section front.rest 0 (omega (arith, front.is.head)) ∙ front.is.kind in
    omega (arith, begins.1)

-- where a head with its table stands, no check fails
no_equiv_fault : (cs : List FileContainer) (rest : List ℕ) (cause : FileCause) → EquivFront rest → IsFirstFault cs rest cause → ⊥
no_equiv_fault cs rest cause front (inl fault) =
    let fails : EquivFails rest cause = first_fails (EquivFails rest) equiv_checks cause fault.1 in
    equiv_passes front.equiv front.rest cause front.is (subst (λ (l : List ℕ). EquivFails l cause) front.split fails)
no_equiv_fault cs rest cause front (inr fault) = fault.0 (equiv_front_begins cs rest front)

-- where a section stands behind a container and not too many patches, no check fails
no_section_fault : (cs : List FileContainer) (rest : List ℕ) (cause : FileCause) → 0 < length cs → patches_in cs < 65536 → SectionFront rest → IsFirstFault cs rest cause → ⊥
no_section_fault cs rest cause some few front (inl fault) = section_front_begins_none cs rest some front fault.0
no_section_fault cs rest cause some few front (inr fault) =
    let fails : SectionFails (patches_in cs) rest cause =
    first_fails (SectionFails (patches_in cs) rest) section_checks cause fault.1 in
    section_passes front.section front.rest front.is (patches_in cs) cause few (subst (λ (l : List ℕ). SectionFails (patches_in cs) l cause) front.split fails)

-- where containers go on, no check fails
no_fault : (cs ds : List FileContainer) (rest : List ℕ) (cause : FileCause) → patches_in ds ≤ 65536 → GoesOn cs ds rest → IsFirstFault cs rest cause → ⊥
no_fault cs ds rest cause few on fault = elim on.next [
  | inl front ↦ no_equiv_fault cs rest cause front fault
  | inr (front, some, fewer) ↦ no_section_fault cs rest cause some (omega arith) front fault
]

-- so no longer front of the bytes is a file
pub longest : (cs : List FileContainer) (rest : List ℕ) (cause : FileCause) (n : ℕ) (others : List FileContainer) → AreContainers cs → IsFirstFault cs rest cause → length (joined cs) < n
    → n ≤ length (joined cs ++ rest) → AmdFile (take n (joined cs ++ rest)) others → ⊥
longest cs rest cause n others each fault past within file =
    let bytes = joined cs ++ rest in
    let split : bytes ≡ joined others ++ drop n bytes = sym (take-append-drop n bytes) ∙ ap (λ (l : List ℕ). l ++ drop n bytes) file.whole in
    let long : length (joined others) ≡ n = sym (ap length file.whole) ∙ length-take-le n bytes within in
    elim (compare cs others rest (drop n bytes) each file.each split) [
      | inl all ↦ omega (arith, ap (λ (ds : List FileContainer). length (joined ds)) all.0)
      | inr (inl on) ↦ no_fault cs others rest cause file.few on fault
      | inr (inr on) ↦ omega (arith, on.shorter)
    ]

-- a file is not empty
file_long : (bytes : List ℕ) (cs : List FileContainer) → AmdFile bytes cs → 0 < length bytes
file_long bytes [] file = absurd (omega (arith, file.some))
file_long bytes (c ∷ cs) file = omega (arith, ap length file.whole, length_parts c cs, file.each.0.equiv.head)

-- before a fault's place stands no whole file
fault_short : (bytes : List ℕ) (cs : List FileContainer) (offset : ℕ) (cause : FileCause) → AmdFile bytes cs → IsFault bytes offset cause → offset < length bytes
fault_short bytes cs offset cause file fault = elim fault.left [
  | inl none ↦ omega (arith, fault.place, ap (λ (ds : List FileContainer). length (joined ds)) none, file_long bytes cs file)
  | inr some ↦ omega (arith, fault.place, ap length fault.split, length-append (joined fault.containers) fault.rest)
]

-- a file has no fault, since the whole of it is a longer front
pub never_both : (bytes : List ℕ) (cs : List FileContainer) (offset : ℕ) (cause : FileCause) → AmdFile bytes cs → IsFault bytes offset cause → ⊥
never_both bytes cs offset cause file fault =
    fault.longest (length bytes) cs (fault_short bytes cs offset cause file fault) (omega arith)
    (subst (λ (l : List ℕ). AmdFile l cs) (sym (take_all (length bytes) bytes (omega arith))) file)

-- the first check that fails is one
one_cause : (cs : List FileContainer) (rest : List ℕ) (c d : FileCause) → IsFirstFault cs rest c → IsFirstFault cs rest d → c ≡ d
one_cause cs rest c d (inl first) (inl second) = one_first (EquivFails rest) equiv_checks c d first.1 second.1
one_cause cs rest c d (inl first) (inr second) = absurd (second.0 first.0)
one_cause cs rest c d (inr first) (inl second) = absurd (first.0 second.0)
one_cause cs rest c d (inr first) (inr second) = one_first (SectionFails (patches_in cs) rest) section_checks c d first.1 second.1

-- two faults are one: neither lies before the other, and there the first check that fails is one
pub one_fault : (bytes : List ℕ) (m n : ℕ) (c d : FileCause) → IsFault bytes m c → IsFault bytes n d → (m ≡ n) × (c ≡ d)
one_fault bytes m n c d first second = elim (compare first.containers second.containers first.rest second.rest first.each second.each (sym first.split ∙ second.split)) [
  | inr (inl on) ↦ absurd (no_fault first.containers second.containers first.rest c second.few on first.first)
  | inr (inr on) ↦ absurd (no_fault second.containers first.containers second.rest d first.few on second.first)
  | inl same ↦
      let here : IsFirstFault second.containers second.rest c =
      subst (λ (l : List ℕ). IsFirstFault second.containers l c) same.1 (subst (λ (cs : List FileContainer). IsFirstFault cs first.rest c) same.0 first.first) in (
        first.place ∙ ap (λ (cs : List FileContainer). length (joined cs)) same.0 ∙ sym second.place,
        one_cause second.containers second.rest c d here second.first,
      )
]
