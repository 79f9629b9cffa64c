-- Rows that are sorted tell those of the table by their numbers.
use Rattle.std.proofs.Common.{◌≡◌, ◌≢◌, inl, inr, ℕ, zero, suc, ◌+◌, ◌<◌, ◌≤◌, List, [], ◌∷◌, length, get_or, refl, sym, ◌∙◌, ap, subst, arith, eq-eqb}
use Rattle.std.specs.Prelude.{All, AllPairs, Contains, sum_by}
use Rattle.std.specs.List.Sorted.{IsPermutation, IsNonDecreasingBy}
use Rattle.std.proofs.lemmas.List.{ext_get_or}
use Rattle.std.proofs.lemmas.List.FromFn.{length-map-range_with_len, get_or-map-range_with_len}
use Rattle.std.proofs.lemmas.List.Elements.{All-head, All-tail, Contains-get_or}
use Rattle.std.proofs.lemmas.List.Sorted.{All-permutation, Contains-permutation, length_permutation, sum_by-IsPermutation}
use Rattle.std.proofs.lemmas.List.Sums.{sum_by-cons, get_or-le-sum_by}
use Rattle.std.proofs.lemmas.List.Kept.{AllPairs-cons}
use Rattle.std.proofs.lemmas.Bool.Decides.{eqb_tells}
use Rattle.equiv_index.specs.declared.row.Row.{Row}
use Rattle.equiv_index.specs.Rows.{numbered, numbered_in, rows_in}
use Rattle.equiv_index.proofs.Alike.{counts, counts_own, counts_other}
use Rattle.equiv_index.proofs.FirstRows.{at_number}

abbrev Plain : Type 0
Plain = ℕ × ℕ

pub many_numbered : (n : ℕ) (rows : List Plain) → length (numbered n rows) ≡ length rows
many_numbered n [] = refl
many_numbered n (row ∷ rows) = omega (arith, many_numbered (n + 1) rows)

-- the row of a number stands there
pub numbered_at : (n k m : ℕ) (rows : List Plain) (d : Row) → k < length rows → m ≡ n + k → get_or (numbered n rows) k d ≡ at_number m (get_or rows k (0, 0))
numbered_at n k m [] d within is = absurd (omega arith)
numbered_at n zero m (row ∷ rows) d within is =
    let same : n ≡ m = omega arith in
    ap (λ (j : ℕ). at_number j row) same
numbered_at n (suc k) m (row ∷ rows) d within is = numbered_at (n + 1) k m rows d (omega arith) (omega arith)

abbrev pub number_of : Row → ℕ
number_of row = row.number

number_at : (rows : List Plain) (k : ℕ) (d : Row) → k < length rows → number_of (get_or (numbered 0 rows) k d) ≡ k
number_at rows k d within = ap number_of (numbered_at 0 k k rows d within (omega arith))

pub numbered_rises : (rows : List Plain) → IsNonDecreasingBy number_of (numbered 0 rows)
numbered_rises rows = λ i j d le within.
    let inside : j < length rows = omega (arith, within, many_numbered 0 rows) in
    omega (arith, le, number_at rows i d (omega arith), number_at rows j d inside)

-- each number stands once
none_before : (n k : ℕ) (rows : List Plain) → k < n → sum_by (counts number_of k) (numbered n rows) ≡ 0
none_before n k [] less = refl
none_before n k (row ∷ rows) less =
    let first = at_number n row in
    elim (eqb_tells n k) [
      | inl same ↦ absurd (omega (arith, same.1))
      | inr other ↦ omega (arith, sum_by-cons (counts number_of k) first (numbered (n + 1) rows), counts_other number_of k first other.0, none_before (n + 1) k rows (omega arith))
    ]

once : (n k : ℕ) (rows : List Plain) → sum_by (counts number_of k) (numbered n rows) ≤ 1
once n k [] = omega arith
once n k (row ∷ rows) =
    let first = at_number n row in
    let more = sum_by-cons (counts number_of k) first (numbered (n + 1) rows) in
    elim (eqb_tells n k) [
      | inl same ↦ omega (arith, more, counts_own number_of k first same.1, none_before (n + 1) k rows (omega (arith, same.1)))
      | inr other ↦ omega (arith, more, counts_other number_of k first other.0, once (n + 1) k rows)
    ]

apart_by : (rows : List Row) → ((k : ℕ) → sum_by (counts number_of k) rows ≤ 1) → AllPairs (λ row other. row.number ≢ other.number) rows
apart_by [] few = λ i j d before within. absurd (omega arith)
apart_by (row ∷ rows) few =
    let k = row.number in
    AllPairs-cons (λ (row other : Row). row.number ≢ other.number) row rows
    (λ j d within. λ same.
    absurd
    (omega (arith, few k, sum_by-cons (counts number_of k) row rows, counts_own number_of k row refl, counts_own number_of k (get_or rows j d) (sym same), get_or-le-sum_by (counts number_of k) rows j d within)))
    (apart_by rows (λ k. omega (arith, few k, sum_by-cons (counts number_of k) row rows)))

-- a row is that of its number
pub record IsOf (rows : List Plain) (row : Row) : Type 0 where
  pub within : row.number < length rows
  pub is : row ≡ at_number row.number (get_or rows row.number (0, 0))

pub all_of : (rows : List Plain) → All (IsOf rows) (numbered 0 rows)
all_of rows = λ k d within.
    let inside : k < length rows = omega (arith, within, many_numbered 0 rows) in
    subst (IsOf rows) (sym (numbered_at 0 k k rows d inside (omega arith))) (record { within = inside; is = refl })

-- what is found by a number is the row of the table
pair_of : (rows : List Plain) (row : Row) (k : ℕ) → IsOf rows row → row.number ≡ k → (row.sig, row.id) ≡ get_or rows k (0, 0)
pair_of rows row k of at =
    ap (λ (r : Row). (r.sig, r.id)) of.is ∙ ap (λ (j : ℕ). get_or rows j (0, 0)) at

found : (rows : List Plain) (sorted : List Row) (k j : ℕ) (d : Row) → All (IsOf rows) sorted → j < length sorted → (get_or sorted j d).number ≡ k → numbered_in sorted k ≡ get_or rows k (0, 0)
found rows [] k j d all within at = absurd (omega arith)
found rows (row ∷ sorted) k zero d all within at = rw (eq-eqb row.number k at) (pair_of rows row k (All-head (IsOf rows) row sorted all) at)
found rows (row ∷ sorted) k (suc j) d all within at =
    elim (eqb_tells row.number k) [
      | inl same ↦ rw (same.0) (pair_of rows row k (All-head (IsOf rows) row sorted all) same.1)
      | inr other ↦ rw (other.0) (found rows sorted k j d (All-tail (IsOf rows) row sorted all) (omega arith) at)
    ]

module _ (rows : List Plain) (sorted : List Row) (moved : IsPermutation (numbered 0 rows) sorted) where
  pub sorted_of : All (IsOf rows) sorted
  sorted_of = All-permutation (IsOf rows) (numbered 0 rows) sorted moved (all_of rows)

  pub many_sorted : length sorted ≡ length rows
  many_sorted = length_permutation (numbered 0 rows) sorted moved ∙ many_numbered 0 rows

  -- no two rows have one number
  pub apart : AllPairs (λ row other. row.number ≢ other.number) sorted
  apart = apart_by sorted (λ k. omega (arith, once 0 k rows, sum_by-IsPermutation (counts number_of k) (numbered 0 rows) sorted moved))

  has_row : (k : ℕ) → k < length rows → Contains sorted (at_number k (get_or rows k (0, 0)))
  has_row k within =
      let d : Row = at_number 0 (0, 0) in
      subst (λ (r : Row). Contains sorted r) (numbered_at 0 k k rows d within (omega arith))
      (Contains-permutation (numbered 0 rows) sorted (get_or (numbered 0 rows) k d) moved (Contains-get_or (numbered 0 rows) k d (omega (arith, within, many_numbered 0 rows))))

  found_here : (k : ℕ) → k < length rows → numbered_in sorted k ≡ get_or rows k (0, 0)
  found_here k within =
      let row : Row = at_number k (get_or rows k (0, 0)) in
      let has = has_row k within in
      found rows sorted k has.0 row sorted_of has.1 (ap (λ (r : Row). r.number) has.2)

  pub all_rows : rows_in sorted ≡ rows
  all_rows =
      ext_get_or (0, 0) (rows_in sorted) rows (length-map-range_with_len (numbered_in sorted) 0 (length sorted) ∙ many_sorted)
      (λ k within.
      let inside : k < length rows = omega (arith, within, length-map-range_with_len (numbered_in sorted) 0 (length sorted), many_sorted) in
      get_or-map-range_with_len (numbered_in sorted) 0 (length sorted) k k (0, 0) (omega (arith, inside, many_sorted)) (omega arith) ∙ found_here k inside)
