-- The rows of a table, by their number, and the first with a signature.
use Rattle.std.proofs.Common.{◌≡◌, ◌≢◌, ℕ, suc, ◌+◌, ◌*◌, ◌/◌, ◌<◌, ◌≤◌, List, ◌∷◌, length, get_or, drop, sym, ◌∙◌, ap, arith, length-drop, drop-cons, add-one}
use Rattle.std.proofs.lemmas.List.{drop_all}
use Rattle.std.proofs.lemmas.List.FromFn.{length-map-range_with_len, get_or-map-range_with_len}
use Rattle.std.proofs.lemmas.Bool.Decides.{nat_tests}
use Rattle.uc_bytes.specs.Words.{word}
use Rattle.amd_format.specs.Equiv.{IsEquiv, row_at, rows_of, id_of}

-- a table has a row for each 16 bytes
pub length-rows : (bytes : List ℕ) → length (rows_of bytes) ≡ length (drop 12 bytes) / 16
length-rows bytes =
    length-map-range_with_len (row_at (drop 12 bytes)) 0 (length (drop 12 bytes) / 16)

-- the row of a number, read from the table
pub row-in-rows : (bytes : List ℕ) (i : ℕ) → i < length (rows_of bytes) → row_at (drop 12 bytes) i ≡ get_or (rows_of bytes) i (0, 0)
row-in-rows bytes i inside =
    let within : i < length (drop 12 bytes) / 16 = omega (arith, length-rows bytes) in
    sym (get_or-map-range_with_len (row_at (drop 12 bytes)) 0 (length (drop 12 bytes) / 16) i i (0, 0) within (omega arith))

-- it stands within the table
pub row-within : (bytes : List ℕ) (i : ℕ) → i < length (rows_of bytes) → 16 * i + 16 ≤ length (drop 12 bytes)
row-within bytes i inside = omega (arith, length-rows bytes)

-- the head says how many there are
pub count-of-rows : (bytes : List ℕ) → IsEquiv bytes → word bytes 8 / 16 ≡ length (rows_of bytes)
count-of-rows bytes is =
    let long : word bytes 8 ≡ length (drop 12 bytes) = omega (arith, is.whole, length-drop 12 bytes) in
    ap (λ (n : ℕ). n / 16) long ∙ sym (length-rows bytes)

module _ (rows : List (ℕ × ℕ)) (i sig : ℕ) (row : ℕ × ℕ) (inside : i < length rows) (is : row ≡ get_or rows i (0, 0)) where
  -- the rows from this one on
  from_row : drop i rows ≡ row ∷ drop (i + 1) rows
  from_row = rw (add-one) (drop-cons rows i (0, 0) inside ∙ ap (λ (r : ℕ × ℕ). r ∷ drop (suc i) rows) (sym is))

  -- a row with another signature is passed by
  pub other-row : row.0 ≢ sig → id_of (drop i rows) sig ≡ id_of (drop (i + 1) rows) sig
  other-row other = ap (λ (l : List (ℕ × ℕ)). id_of l sig) from_row ∙ grind (arith, nat_tests)

  -- the row that has the signature gives the id
  pub same-row : row.0 ≡ sig → id_of (drop i rows) sig ≡ row.1
  same-row same = ap (λ (l : List (ℕ × ℕ)). id_of l sig) from_row ∙ grind (arith, nat_tests)

-- past the last row no row has it
pub no-row : (rows : List (ℕ × ℕ)) (i sig : ℕ) → length rows ≤ i → id_of (drop i rows) sig ≡ 0
no-row rows i sig past = ap (λ (l : List (ℕ × ℕ)). id_of l sig) (drop_all i rows past)
