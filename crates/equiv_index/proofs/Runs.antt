-- The first row of each signature begins a run of sorted rows.
use Rattle.std.proofs.Common.{◌≡◌, ◌≢◌, inl, inr, ℕ, zero, suc, ◌+◌, ◌-◌, ◌<◌, ◌≤◌, Bool, true, false, List, [], ◌∷◌, ◌++◌, Option, Some, length, get_or, take, refl, ◌∙◌, ap, subst, arith, eq-eqb}
use Rattle.std.specs.Prelude.{AllPairs, filter, if◌then◌else◌}
use Rattle.std.specs.List.Sorted.{IsNonDecreasingBy}
use Rattle.std.proofs.lemmas.Bool.Decides.{nat_tests, eqb_tells}
use Rattle.std.proofs.lemmas.List.{append-nil, get_or_default}
use Rattle.std.proofs.lemmas.List.Elements.{filter_more}
use Rattle.equiv_index.specs.declared.row.Row.{Row}
use Rattle.equiv_index.specs.Rows.{first_with, is_numbered, is_first, no_row, row_at}
use Rattle.equiv_index.specs.Index.{BeginsRun}
use Rattle.equiv_index.proofs.Sorted.{nth_having, found_having}
use Rattle.equiv_index.proofs.FirstRows.{first_having}

abbrev sig_of : Row → ℕ
sig_of row = row.sig

-- a row with no row of its signature before it is the first with it
run_begins : (sorted : List Row) (at : ℕ) → IsNonDecreasingBy sig_of sorted → at < length sorted → (0 < at → (get_or sorted (at - 1) no_row).sig ≢ (get_or sorted at no_row).sig) → first_with sorted (get_or sorted at no_row).sig ≡ Some (get_or sorted at no_row)
run_begins sorted at up within begins =
    let row = get_or sorted at no_row in
    let place : at ≡ at + 0 = omega arith in
    first_having sorted row.sig
    ∙ nth_having sig_of row.sig sorted at 0 at up
    (λ j d before inside.
    let last = up j (at - 1) no_row (omega arith) (omega arith) in
    let next = up (at - 1) at no_row (omega arith) within in
    let other = begins (omega arith) in
    let less : (get_or sorted j no_row).sig < row.sig = grind (arith, last, next, other) in
    subst (λ (r : Row). r.sig < row.sig) (get_or_default sorted j no_row d inside) less)
    (λ j d behind inside. subst (λ (r : Row). row.sig ≤ r.sig) (get_or_default sorted j no_row d inside) (up at j no_row behind inside))
    place
    ∙ found_having sig_of row.sig sorted at no_row within refl

-- no two rows have one number
abbrev pub AreApart : List Row → Type 0
AreApart rows = AllPairs (λ row other. row.number ≢ other.number) rows

-- a row behind another of its signature is not the first with it
behind : (sorted : List Row) (at sig : ℕ) → AreApart sorted → suc at < length sorted → (get_or sorted at no_row).sig ≡ sig → is_numbered (first_with sorted sig) (get_or sorted (suc at) no_row).number ≡ false
behind [] at sig apart within is = absurd (omega arith)
behind (row ∷ rows) zero sig apart within is =
    let differs : row.number ≢ (get_or rows 0 no_row).number = apart 0 (suc 0) no_row (omega arith) within in
    rw (eq-eqb row.sig sig is) (grind (arith, nat_tests))
behind (row ∷ rows) (suc at) sig apart within is =
    let differs : row.number ≢ (get_or rows (suc at) no_row).number = apart 0 (suc (suc at)) no_row (omega arith) within in
    elim (eqb_tells row.sig sig) [
      | inl same ↦ rw (same.0) (grind (arith, nat_tests))
      | inr other ↦ rw (other.0) (behind rows at sig (λ i j d before inside. apart (suc i) (suc j) d (omega arith) (omega arith)) (omega arith) is)
    ]

module _ (sorted : List Row) (up : IsNonDecreasingBy sig_of sorted) where
  pub begins : (at : ℕ) → at < length sorted → BeginsRun sorted at → is_first sorted (row_at sorted at) ≡ true
  begins at within runs =
      let row = row_at sorted at in
      ap (λ (o : Option Row). is_numbered o row.number) (run_begins sorted at up within runs) ∙ eq-eqb row.number row.number refl

-- where it does not begin a run, it is of the run before it
pub passed : (sorted : List Row) (at : ℕ) → AreApart sorted → at < length sorted → (BeginsRun sorted at → ⊥) → is_first sorted (row_at sorted at) ≡ false
passed sorted zero apart within runs = absurd (runs (λ some. absurd (omega arith)))
passed sorted (suc at) apart within runs =
    elim (eqb_tells (get_or sorted (suc at - 1) no_row).sig (get_or sorted (suc at) no_row).sig) [
      | inl same ↦
          let before : at ≡ suc at - 1 = omega arith in
          behind sorted at (get_or sorted (suc at) no_row).sig apart within (ap (λ (j : ℕ). (get_or sorted j no_row).sig) before ∙ same.1)
      | inr other ↦ absurd (runs (λ some. other.1))
    ]

-- so that the first rows up to a place grow by the row there, or by none
module _ (sorted : List Row) (at : ℕ) (within : at < length sorted) where
  grown : filter (is_first sorted) (take (at + 1) sorted) ≡ filter (is_first sorted) (take at sorted) ++ (if is_first sorted (row_at sorted at) then row_at sorted at ∷ [] else [])
  grown = filter_more (is_first sorted) sorted at no_row within

  pub one_more : is_first sorted (row_at sorted at) ≡ true → filter (is_first sorted) (take (at + 1) sorted) ≡ filter (is_first sorted) (take at sorted) ++ row_at sorted at ∷ []
  one_more is = grown ∙ ap (λ (b : Bool). filter (is_first sorted) (take at sorted) ++ (if b then row_at sorted at ∷ [] else [])) is

  pub no_more : is_first sorted (row_at sorted at) ≡ false → filter (is_first sorted) (take (at + 1) sorted) ≡ filter (is_first sorted) (take at sorted)
  no_more is = grown ∙ ap (λ (b : Bool). filter (is_first sorted) (take at sorted) ++ (if b then row_at sorted at ∷ [] else [])) is ∙ append-nil _
