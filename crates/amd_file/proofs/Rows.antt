-- The rows of a table that grows.
use Rattle.std.proofs.Common.{◌≡◌, ℕ, zero, suc, ◌+◌, ◌*◌, ◌/◌, ◌<◌, List, [], ◌∷◌, ◌++◌, length, drop, map, refl, sym, ◌∙◌, ap, arith, length-append, length-drop}
use Rattle.std.proofs.lemmas.List.{drop-append-le, drop_at}
use Rattle.std.proofs.Math.Seq.{drop-append-add}
use Rattle.std.specs.List.{range_with_len}
use Rattle.std.proofs.lemmas.List.FromFn.{map-range_with_len_more}
use Rattle.uc_bytes.specs.Words.{word, half}
use Rattle.uc_bytes.proofs.Fronts.{word-append, half-append}
use Rattle.amd_format.specs.Equiv.{row_at, rows_of}

-- a word behind a list
word-behind : (xs ys : List ℕ) (at : ℕ) → length xs ≡ at → word (xs ++ ys) at ≡ word ys 0
unfolding word
word-behind xs ys at long = ap (λ (l : List ℕ). word l 0) (drop_at xs ys at long)

-- a half word behind a list
half-behind : (xs ys : List ℕ) (at more : ℕ) → length xs + more ≡ at → half (xs ++ ys) at ≡ half ys more
unfolding half
half-behind xs ys at more long =
    ap (λ (n : ℕ). half (xs ++ ys) n) (sym long) ∙ ap (λ (l : List ℕ). half l 0) (drop-append-add xs ys more)

-- functions that agree on a range give the same list
map-same : {X : Type 0} (f g : ℕ → X) (a n end : ℕ) → a + n ≡ end → ((i : ℕ) → i < end → f i ≡ g i) → map f (range_with_len a n) ≡ map g (range_with_len a n)
map-same f g a zero end is same = refl
map-same f g a (suc n) end is same =
    λ i. same a (omega (arith, is)) i ∷ map-same f g (a + 1) n end (omega (arith, is)) same i

module _ (table more : List ℕ) (count : ℕ) (whole : length table ≡ 16 * count) where
  -- rows that stand before the end are read the same whatever follows
  row-before : (i : ℕ) → i < count → row_at (table ++ more) i ≡ row_at table i
  row-before i inside =
      λ k. (word-append table more (16 * i) (omega (arith, whole, inside)) k, half-append table more (12 + 16 * i) (omega (arith, whole, inside)) k)

  -- the row that stands at the end
  row-behind : row_at (table ++ more) count ≡ (word more 0, half more 12)
  row-behind = λ k. (word-behind table more (16 * count) whole k, half-behind table more (12 + 16 * count) 12 (omega (arith, whole)) k)

  rows-before : map (row_at (table ++ more)) (range_with_len 0 count) ≡ map (row_at table) (range_with_len 0 count)
  rows-before = map-same (row_at (table ++ more)) (row_at table) 0 count count (omega arith) row-before

-- a head alone has no rows
pub rows-none : (front : List ℕ) → length front ≡ 12 → rows_of front ≡ []
rows-none front long =
    let none : length (drop 12 front) / 16 ≡ 0 = omega (arith, length-drop 12 front, long) in
    ap (λ (n : ℕ). map (row_at (drop 12 front)) (range_with_len 0 n)) none

-- the rows of a head with this table
rows-are : (front table : List ℕ) (n : ℕ) → drop 12 front ≡ table → length table / 16 ≡ n → rows_of front ≡ map (row_at table) (range_with_len 0 n)
rows-are front table n is many =
    ap (λ (l : List ℕ). map (row_at l) (range_with_len 0 (length l / 16))) is ∙ ap (λ (k : ℕ). map (row_at table) (range_with_len 0 k)) many

-- 16 bytes more are a row more
pub rows-push : (front row : List ℕ) (count : ℕ) → length front ≡ 12 + 16 * count → length row ≡ 16 → rows_of (front ++ row) ≡ rows_of front ++ (word row 0, half row 12) ∷ []
rows-push front row count long sixteen =
    let whole : length (drop 12 front) ≡ 16 * count = omega (arith, length-drop 12 front, long) in
    let longer : drop 12 (front ++ row) ≡ drop 12 front ++ row = drop-append-le 12 front row (omega (arith, long)) in
    let many : length (drop 12 front ++ row) / 16 ≡ count + 1 = omega (arith, length-append (drop 12 front) row, whole, sixteen) in
    rows-are (front ++ row) (drop 12 front ++ row) (count + 1) longer many
    ∙ map-range_with_len_more (row_at (drop 12 front ++ row)) 0 count count (omega arith)
    ∙ ap (λ (l : List (ℕ × ℕ)). l ++ row_at (drop 12 front ++ row) count ∷ []) (rows-before (drop 12 front) row count whole)
    ∙ ap (λ (r : ℕ × ℕ). map (row_at (drop 12 front)) (range_with_len 0 count) ++ r ∷ []) (row-behind (drop 12 front) row count whole)
    ∙ ap (λ (l : List (ℕ × ℕ)). l ++ (word row 0, half row 12) ∷ []) (sym (rows-are front (drop 12 front) count refl (omega (arith, whole))))

-- fewer are none
pub rows-stay : (front more : List ℕ) (count : ℕ) → length front ≡ 12 + 16 * count → length more < 16 → rows_of (front ++ more) ≡ rows_of front
rows-stay front more count long few =
    let whole : length (drop 12 front) ≡ 16 * count = omega (arith, length-drop 12 front, long) in
    let longer : drop 12 (front ++ more) ≡ drop 12 front ++ more = drop-append-le 12 front more (omega (arith, long)) in
    let many : length (drop 12 front ++ more) / 16 ≡ count = omega (arith, length-append (drop 12 front) more, whole, few) in
    rows-are (front ++ more) (drop 12 front ++ more) count longer many
    ∙ rows-before (drop 12 front) more count whole
    ∙ sym (rows-are front (drop 12 front) count refl (omega (arith, whole)))
