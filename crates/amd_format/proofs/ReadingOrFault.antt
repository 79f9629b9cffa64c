-- Bytes have a reading or a fault.
use Rattle.std.proofs.Common.{◌≡◌, ◌⊎◌, inl, inr, ⊎_elim, ℕ, zero, suc, ◌+◌, ◌<◌, ◌≤◌, List, [], ◌∷◌, ◌++◌, length, take, drop, sym, ◌∙◌, ap, subst, refl, arith, append-nil, append_assoc, length-append, length-take, length-drop, take-append-drop}
use Rattle.std.proofs.lemmas.Bool.{cases_eq}
use Rattle.fault_rule.proofs.Decided.{both, decided_le}
use Rattle.uc_bytes.specs.Words.{word}
use Rattle.uc_bytes.specs.declared.causes.FileCause.{FileCause}
use Rattle.amd_format.specs.Equiv.{IsEquiv, amd_magic}
use Rattle.amd_format.specs.Patch.{IsSection}
use Rattle.amd_format.specs.File.{FileContainer, AreContainers, AmdFile, joined, patches_in}
use Rattle.amd_format.specs.Checks.{IsFirstFault, IsFault}
use Rattle.amd_format.proofs.Begins.{equiv_begins, section_begins}
use Rattle.amd_format.proofs.Checked.{equiv_checked, section_checked}
use Rattle.amd_format.proofs.OneFault.{longest}
use Rattle.amd_format.proofs.Pushing.{bare, with_section, joined_push_bare, each_push, bare_is, patches_push, joined_push_section, each_push_section, patches_push_section}

-- the longest front that is a file, or is empty, ends where a check fails
pub fault_of : (bytes : List ℕ) (cs : List FileContainer) (rest : List ℕ) (cause : FileCause) → bytes ≡ joined cs ++ rest → AreContainers cs → patches_in cs ≤ 65536 → ((cs ≡ []) ⊎ (0 < length rest)) → IsFirstFault cs rest cause
    → IsFault bytes (length (joined cs)) cause
fault_of bytes cs rest cause split each few left first = record {
  containers = cs;
  rest = rest;
  split = split;
  each = each;
  few = few;
  place = refl;
  left = left;
  longest = λ n others past within file.
      longest cs rest cause n others each first past (omega (arith, ap length split)) (subst (λ (l : List ℕ). AmdFile (take n l) others) split file);
  first = first;
}

-- what stands at the end of containers: another begins there, or none does
begins_or_not : (bytes : List ℕ) → ((4 ≤ length bytes) × (word bytes 0 ≡ amd_magic)) ⊎ ((4 ≤ length bytes) × (word bytes 0 ≡ amd_magic) → ⊥)
begins_or_not bytes = both (decided_le _ _) (cases_eq _ _)

-- containers at the front of bytes, the last of which may have further sections
record Walked (bytes : List ℕ) : Type 0 where
  front : List FileContainer
  last : FileContainer
  rest : List ℕ
  split : bytes ≡ joined (front ++ last ∷ []) ++ rest
  each : AreContainers (front ++ last ∷ [])
  few : patches_in (front ++ last ∷ []) ≤ 65536

abbrev containers : {bytes : List ℕ} → Walked bytes → List FileContainer
containers w = w.front ++ w.last ∷ []

abbrev Fault : List ℕ → Type 0
Fault bytes = (offset : ℕ) × (cause : FileCause) × IsFault bytes offset cause

-- one container or one section more, behind which less is left
abbrev Further : (bytes rest : List ℕ) → Type 0
Further bytes rest = (w : Walked bytes) × (length w.rest < length rest)

-- what is left behind a front
left_behind : (n : ℕ) (rest : List ℕ) → 0 < n → 0 < length rest → length (drop n rest) < length rest
left_behind n rest some left = omega (arith, length-drop n rest)

-- a container that begins behind containers, or at the begin
add_container : (bytes : List ℕ) (cs : List FileContainer) (rest : List ℕ) → bytes ≡ joined cs ++ rest → AreContainers cs → patches_in cs ≤ 65536 → IsEquiv (take (12 + word rest 8) rest) → Further bytes rest
add_container bytes cs rest split each few is =
    let n = 12 + word rest 8 in
    let e = take n rest in (
      record {
        front = cs;
        last = bare e;
        rest = drop n rest;
        split = split
            ∙ ap (λ (l : List ℕ). joined cs ++ l) (sym (take-append-drop n rest))
            ∙ sym (append_assoc (joined cs) e (drop n rest))
            ∙ ap (λ (l : List ℕ). l ++ drop n rest) (sym (joined_push_bare cs (bare e) refl));
        each = each_push cs (bare e) each (bare_is e is);
        few = omega (arith, patches_push cs (bare e));
      },
      left_behind n rest (omega arith) (omega (arith, is.head, length-take n rest)),
    )

-- a section that begins behind containers
add_section : (bytes : List ℕ) (w : Walked bytes) → patches_in (containers w) < 65536 → IsSection (take (8 + word w.rest 4) w.rest) → Further bytes w.rest
add_section bytes w few is =
    let n = 8 + word w.rest 4 in
    let s = take n w.rest in (
      record {
        front = w.front;
        last = with_section w.last s;
        rest = drop n w.rest;
        split = w.split
            ∙ ap (λ (l : List ℕ). joined (containers w) ++ l) (sym (take-append-drop n w.rest))
            ∙ sym (append_assoc (joined (containers w)) s (drop n w.rest))
            ∙ ap (λ (l : List ℕ). l ++ drop n w.rest) (sym (joined_push_section w.front w.last s));
        each = each_push_section w.front w.last s w.each is;
        few = omega (arith, patches_push_section w.front w.last s);
      },
      left_behind n w.rest (omega arith) (omega (arith, is.head, length-take n w.rest)),
    )

-- at the begin of a file a container begins, or there is a fault
first_step : (bytes : List ℕ) → Further bytes bytes ⊎ Fault bytes
first_step bytes = elim (equiv_checked bytes) [
  | inl (cause, fault) ↦ inr (0, cause, fault_of bytes [] bytes cause refl tt (omega arith) (inl refl) (inl (inl refl, fault)))
  | inr passes ↦ inl (add_container bytes [] bytes refl tt (omega arith) (equiv_begins bytes passes))
]

-- a list with an element at its end is not empty
not_none : (cs : List FileContainer) (c : FileContainer) → cs ++ c ∷ [] ≡ [] → ⊥
not_none cs c none = omega (arith, ap length none, length-append cs (c ∷ []))

-- behind containers one more container or section begins, or there is a fault
next_step : (bytes : List ℕ) (w : Walked bytes) → 0 < length w.rest → Further bytes w.rest ⊎ Fault bytes
next_step bytes w left =
    let cs = containers w in
    elim (begins_or_not w.rest) [
      | inl begins ↦ elim (equiv_checked w.rest) [
        | inl (cause, fault) ↦ inr (length (joined cs), cause, fault_of bytes cs w.rest cause w.split w.each w.few (inr left) (inl (inr begins, fault)))
        | inr passes ↦ inl (add_container bytes cs w.rest w.split w.each w.few (equiv_begins w.rest passes))
      ]
      | inr none ↦ elim (section_checked (patches_in cs) w.rest) [
        | inl (cause, fault) ↦
            inr (
              length (joined cs),
              cause,
              fault_of bytes cs w.rest cause w.split w.each w.few (inr left) (inr (⊎_elim (not_none w.front w.last) none, fault)),
            )
        | inr passes ↦ let begins = section_begins (patches_in cs) w.rest passes in inl (add_section bytes w begins.1 begins.0)
      ]
    ]

-- containers alone are a file
whole_file : (bytes : List ℕ) (w : Walked bytes) → w.rest ≡ [] → AmdFile bytes (containers w)
whole_file bytes w none = record {
  whole = w.split ∙ ap (λ (l : List ℕ). joined (containers w) ++ l) none ∙ append-nil (joined (containers w));
  some = omega (arith, length-append w.front (w.last ∷ []));
  each = w.each;
  few = w.few;
}

-- a list of length 0 is empty
empty_list : (l : List ℕ) → length l ≡ 0 → l ≡ []
empty_list [] is = refl
empty_list (x ∷ l) is = absurd (omega arith)

-- with one step of fuel for each byte that is left
walk : (fuel : ℕ) (bytes : List ℕ) (w : Walked bytes) → length w.rest ≤ fuel → ((cs : List FileContainer) × AmdFile bytes cs) ⊎ Fault bytes
walk zero bytes w short = inl (containers w, whole_file bytes w (empty_list w.rest (omega arith)))
walk (suc fuel) bytes w short = elim (cases_eq (length w.rest) 0) [
  | inl none ↦ inl (containers w, whole_file bytes w (empty_list w.rest none))
  | inr some ↦ elim (next_step bytes w (omega arith)) [
    | inl further ↦ walk fuel bytes further.0 (omega (arith, further.1))
    | inr fault ↦ inr fault
  ]
]

-- every list of bytes is a file or has a fault
pub reading_or_fault : (bytes : List ℕ) → ((cs : List FileContainer) × AmdFile bytes cs) ⊎ Fault bytes
reading_or_fault bytes = elim (first_step bytes) [
  | inl further ↦ walk (length bytes) bytes further.0 (omega (arith, further.1))
  | inr fault ↦ inr fault
]
