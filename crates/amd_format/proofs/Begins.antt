-- An equivalence table, and a section, at the front of bytes, by what the checks say; and what stands at the front of
-- bytes reads the same whatever follows it.
use Rattle.std.proofs.Common.{◌≡◌, ◌≢◌, inl, inr, ℕ, ◌+◌, ◌<◌, ◌≤◌, List, length, take, drop, sym, ◌∙◌, ap, subst, arith, length-drop, length-take-le}
use Rattle.std.proofs.lemmas.Bool.{cases_lt, cases_eq}
use Rattle.std.proofs.lemmas.List.{drop-take}
use Rattle.fault_rule.specs.Checks.{AllPass}
use Rattle.uc_bytes.proofs.Fronts.{word-take, half-take}
use Rattle.uc_bytes.specs.Words.{word}
use Rattle.amd_format.specs.Equiv.{IsEquiv, amd_magic}
use Rattle.amd_format.specs.Patch.{IsPatch, IsSection, PastBound, patch_family, patch_id, patch_of, north_device, south_device}
use Rattle.amd_format.specs.Checks.{EquivFails, SectionFails, equiv_checks, section_checks}

-- the head and the table that the bytes begin with, by their words
pub equiv_at_front : (bytes : List ℕ) → word bytes 0 ≡ amd_magic → word bytes 4 ≡ 0 → 16 ≤ word bytes 8 → 12 + word bytes 8 ≤ length bytes → IsEquiv (take (12 + word bytes 8) bytes)
equiv_at_front bytes magic kind some whole =
    let n = 12 + word bytes 8 in
    let long : length (take n bytes) ≡ n = length-take-le n bytes whole in
    record {
      head = omega (arith, long);
      magic = word-take n bytes 0 (omega arith) ∙ magic;
      kind = word-take n bytes 4 (omega arith) ∙ kind;
      some_row = subst (λ (k : ℕ). 16 ≤ k) (sym (word-take n bytes 8 (omega arith))) some;
      whole = long ∙ ap (λ (k : ℕ). 12 + k) (sym (word-take n bytes 8 (omega arith)));
    }

-- the patch that begins the bytes behind a section's head
patch_at_front : (bytes : List ℕ) (n : ℕ) → 64 ≤ n → n ≤ length bytes → (PastBound (patch_family (patch_id bytes)) n → ⊥) → north_device bytes ≡ 0 → south_device bytes ≡ 0 → IsPatch (take n bytes)
patch_at_front bytes n some whole bounded north south =
    let long : length (take n bytes) ≡ n = length-take-le n bytes whole in
    let id : patch_id (take n bytes) ≡ patch_id bytes = half-take n bytes 24 (omega arith) in
    record {
      header = omega (arith, long);
      bounded = λ past. bounded (subst (λ (k : ℕ). PastBound (patch_family (patch_id bytes)) k) long (subst (λ (k : ℕ). PastBound (patch_family k) (length (take n bytes))) id past));
      no_north = word-take n bytes 16 (omega arith) ∙ north;
      no_south = word-take n bytes 20 (omega arith) ∙ south;
    }

-- the section that the bytes begin with, by its words
pub section_at_front : (bytes : List ℕ) → word bytes 0 ≡ 1 → 64 ≤ word bytes 4 → 8 + word bytes 4 ≤ length bytes → (PastBound (patch_family (patch_id (patch_of bytes))) (word bytes 4) → ⊥)
    → north_device (patch_of bytes) ≡ 0 → south_device (patch_of bytes) ≡ 0 → IsSection (take (8 + word bytes 4) bytes)
section_at_front bytes kind some whole bounded north south =
    let n = word bytes 4 in
    let long : length (take (8 + n) bytes) ≡ 8 + n = length-take-le (8 + n) bytes whole in
    record {
      head = omega (arith, long);
      kind = word-take (8 + n) bytes 0 (omega arith) ∙ kind;
      whole = long ∙ ap (λ (k : ℕ). 8 + k) (sym (word-take (8 + n) bytes 4 (omega arith)));
      patch = subst IsPatch (sym (drop-take 8 n bytes)) (patch_at_front (drop 8 bytes) n some (omega (arith, length-drop 8 bytes)) bounded north south);
    }

-- what is not unequal is equal
same_or : {a b : ℕ} → (a ≢ b → ⊥) → a ≡ b
same_or {a} {b} not_other = elim (cases_eq a b) [ inl same ↦ same | inr other ↦ absurd (not_other other) ]

-- what is not less is at least as much
pub at_least : {a b : ℕ} → (a < b → ⊥) → b ≤ a
at_least {a} {b} not_less = elim (cases_lt a b) [ inl less ↦ absurd (not_less less) | inr more ↦ more ]

-- where all checks of a container pass, its head and table stand at the front
pub equiv_begins : (bytes : List ℕ) → AllPass (EquivFails bytes) equiv_checks → IsEquiv (take (12 + word bytes 8) bytes)
equiv_begins bytes (long, (magic, (kind, (some, (whole, all))))) =
    equiv_at_front bytes (same_or magic) (same_or kind) (at_least some) (at_least whole)

-- where all checks of a section pass, it stands at the front, and few enough patches stand before it
pub section_begins : (before : ℕ) (bytes : List ℕ) → AllPass (SectionFails before bytes) section_checks → IsSection (take (8 + word bytes 4) bytes) × (before < 65536)
section_begins before bytes (long, (kind, (some, (whole, (bounded, (no_device, (few, all))))))) = (
  section_at_front bytes (same_or kind) (at_least some) (at_least whole) bounded (same_or (λ other. no_device (inl other))) (same_or (λ other. no_device (inr other))),
  elim (cases_lt before 65536) [ inl less ↦ less | inr more ↦ absurd (few more) ],
)
