-- The first rows of a table.
use Rattle.std.proofs.Common.{◌≡◌, ℕ, zero, suc, ◌+◌, ◌<◌, Bool, true, false, List, [], ◌∷◌, ◌++◌, Option, Some, None, length, get_or, take, refl, sym, ◌∙◌, ap, arith, eq-eqb}
use Rattle.std.specs.Prelude.{not, filter, slice_get, ◌==◌, if◌then◌else◌}
use Rattle.std.proofs.lemmas.List.{take_more}
use Rattle.std.proofs.lemmas.List.Elements.{filter-append}
use Rattle.std.proofs.lemmas.Bool.Decides.{nat_tests}
use Rattle.amd_format.specs.Equiv.{id_of}
use Rattle.entry_model.specs.Entry.{first_rows}
use Rattle.equiv_index.specs.declared.row.Row.{Row}
use Rattle.equiv_index.specs.Rows.{numbered, first_with, is_numbered, is_first}
use Rattle.equiv_index.proofs.Sorted.{having}

abbrev Plain : Type 0
Plain = ℕ × ℕ

-- a row with its number
abbrev pub at_number : ℕ → Plain → Row
at_number number row = record { sig = row.0; number = number; id = row.1 }

-- one more row has the next number
pub numbered_push : (n m : ℕ) (rows : List Plain) (row : Plain) → m ≡ n + length rows → numbered n (rows ++ row ∷ []) ≡ numbered n rows ++ at_number m row ∷ []
numbered_push n m [] row is =
    let same : n ≡ m = omega arith in
    ap (λ (k : ℕ). at_number k row ∷ []) same
numbered_push n m (x ∷ xs) row is = ap (λ (l : List Row). at_number n x ∷ l) (numbered_push (n + 1) m xs row (omega arith))

-- the first row with a signature is the first of those that have it
pub first_having : (rows : List Row) (sig : ℕ) → first_with rows sig ≡ slice_get (having (λ (row : Row). row.sig) sig rows) 0
first_having [] sig = refl
first_having (row ∷ rows) sig =
    elim (row.sig == sig) as (λ b. (if b then Some row else first_with rows sig) ≡ slice_get (if b then row ∷ having (λ (row : Row). row.sig) sig rows else having (λ (row : Row). row.sig) sig rows) 0)
    [ true ↦ refl | false ↦ first_having rows sig ]

-- its id; 0 where there is none
abbrev pub id_in : Option Row → ℕ
id_in None = 0
id_in (Some row) = row.id

pub id_in_first : (n : ℕ) (rows : List Plain) (sig : ℕ) → id_of rows sig ≡ id_in (first_with (numbered n rows) sig)
id_in_first n [] sig = refl
id_in_first n (row ∷ rows) sig =
    elim (row.0 == sig) as (λ b. (if b then row.1 else id_of rows sig) ≡ id_in (if b then Some (at_number n row) else first_with (numbered (n + 1) rows) sig))
    [ true ↦ refl | false ↦ id_in_first (n + 1) rows sig ]

-- one of the rows has the signature
abbrev is_among : ℕ → List Plain → Bool
is_among sig [] = false
is_among sig (row ∷ rows) = if row.0 == sig then true else is_among sig rows

-- the first row with a signature that stands at a place is the one there where none before has it
numbered_first : (n m k : ℕ) (rows : List Plain) → k < length rows → m ≡ n + k → is_numbered (first_with (numbered n rows) (get_or rows k (0, 0)).0) m ≡ not (is_among (get_or rows k (0, 0)).0 (take k rows))
numbered_first n m k [] within is = absurd (omega arith)
numbered_first n m zero (row ∷ rows) within is =
    let own : (row.0 == row.0) ≡ true = eq-eqb row.0 row.0 refl in
    let same : (n == m) ≡ true = grind (arith, nat_tests) in
    rw (own, same) refl
numbered_first n m (suc k) (row ∷ rows) within is =
    let sig : ℕ = (get_or rows k (0, 0)).0 in
    let other : (n == m) ≡ false = grind (arith, nat_tests) in
    elim (row.0 == sig) as (λ b. is_numbered (if b then Some (at_number n row) else first_with (numbered (n + 1) rows) sig) m ≡ not (if b then true else is_among sig (take k rows)))
    [ true ↦ other | false ↦ numbered_first (n + 1) m k rows (omega arith) (omega arith) ]

-- the row, where its signature is not among those before
abbrev pub fresh : Bool → Plain → List Plain
fresh true row = row ∷ []
fresh false row = []

-- a row that is taken out where another has its signature
filter_fresh : (p : Plain → Bool) (row : Plain) (known same : Bool) → p row ≡ not same → filter p (fresh (not known) row) ≡ fresh (not (if same then true else known)) row
filter_fresh p row true true is = refl
filter_fresh p row true false is = refl
filter_fresh p row false true is = rw is refl
filter_fresh p row false false is = rw is refl

-- a test of equal numbers either way
equal_either : (a b : ℕ) → (a == b) ≡ (b == a)
equal_either a b = grind (arith, nat_tests)

-- one more row is a first one where no earlier row has its signature
first_push : (rows : List Plain) (row : Plain) → first_rows (rows ++ row ∷ []) ≡ first_rows rows ++ fresh (not (is_among row.0 rows)) row
first_push [] row = refl
first_push (x ∷ xs) row =
    let p : Plain → Bool = λ other. not (other.0 == x.0) in
    ap (λ (l : List Plain). x ∷ filter p l) (first_push xs row)
    ∙ ap (λ (l : List Plain). x ∷ l) (filter-append p (first_rows xs) (fresh (not (is_among row.0 xs)) row))
    ∙ ap (λ (l : List Plain). x ∷ (filter p (first_rows xs) ++ l))
    (filter_fresh p row (is_among row.0 xs) (x.0 == row.0) (ap (λ (b : Bool). not b) (equal_either row.0 x.0)))

-- so that the first rows up to a place grow by the row there, or by none
pub first_rows_more : (rows : List Plain) (at : ℕ) → at < length rows
    → first_rows (take (at + 1) rows) ≡ first_rows (take at rows) ++ fresh (is_first (numbered 0 rows) (at_number at (get_or rows at (0, 0)))) (get_or rows at (0, 0))
first_rows_more rows at within =
    let row = get_or rows at (0, 0) in
    ap (λ (l : List Plain). first_rows l) (take_more rows at (0, 0) within)
    ∙ first_push (take at rows) row
    ∙ ap (λ (b : Bool). first_rows (take at rows) ++ fresh b row) (sym (numbered_first 0 at at rows within (omega arith)))
