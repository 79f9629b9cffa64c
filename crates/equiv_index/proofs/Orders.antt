-- A sort of a table's rows by signature, and of the places of the first rows by id.
use Rattle.std.proofs.Common.{◌≡◌, ℕ, zero, suc, ◌+◌, ◌≤◌, Bool, true, false, List, [], ◌∷◌, ◌++◌, Option, length, get_or, take, map, refl, sym, ◌∙◌, ap, arith}
use Rattle.std.specs.Prelude.{All, sum_by, filter, slice_get, ◌==◌, if◌then◌else◌}
use Rattle.std.specs.List.Sorted.{IsPermutation, IsSortedBy}
use Rattle.std.proofs.lemmas.List.{map-append, take_all}
use Rattle.std.proofs.lemmas.List.Elements.{All-filter, All-same, All-weaker, filter_agree, filter_more}
use Rattle.std.proofs.lemmas.List.Kept.{IsNonDecreasingBy-filter}
use Rattle.std.proofs.lemmas.List.Sorted.{All-permutation}
use Rattle.entry_model.specs.Entry.{first_rows}
use Rattle.equiv_index.specs.declared.row.Row.{Row}
use Rattle.equiv_index.specs.Rows.{numbered, is_first, is_numbered, sigs_with, served_by}
use Rattle.equiv_index.specs.Index.{IsBySig, IsById}
use Rattle.equiv_index.proofs.Alike.{Alike, alike_filter, alike_moved, IsTold}
use Rattle.equiv_index.proofs.Sorted.{having, is_below, rises_first, sorted_having}
use Rattle.equiv_index.proofs.FirstRows.{at_number, first_having, fresh, first_rows_more}
use Rattle.equiv_index.proofs.Numbers.{IsOf, all_of, sorted_of, number_of, numbered_at, numbered_rises, many_numbered}

abbrev Plain : Type 0
Plain = ℕ × ℕ

abbrev pair_of : Row → Plain
pair_of row = (row.sig, row.id)

abbrev id_of_row : Row → ℕ
id_of_row row = row.id

abbrev sig_of_row : Row → ℕ
sig_of_row row = row.sig

-- the row of a number
abbrev row_of : List Plain → ℕ → Row
row_of rows k = at_number k (get_or rows k (0, 0))

abbrev Told : List Plain → Row → Type 0
Told rows = IsTold number_of (row_of rows)

all_told : (rows : List Plain) → All (Told rows) (numbered 0 rows)
all_told rows = All-weaker (IsOf rows) (Told rows) (λ row of. of.is) (numbered 0 rows) (all_of rows)

sorted_told : (rows : List Plain) (sorted : List Row) → IsPermutation (numbered 0 rows) sorted → All (Told rows) sorted
sorted_told rows sorted moved = All-weaker (IsOf rows) (Told rows) (λ row of. of.is) sorted (sorted_of rows sorted moved)

-- rows that are sorted by signature and number have the first of each signature in front
pub by_sig : (rows : List Plain) (sorted : List Row) → IsPermutation (numbered 0 rows) sorted → IsSortedBy (is_below sig_of_row number_of) sorted → IsBySig rows sorted
by_sig rows sorted moved up =
    let table = numbered 0 rows in
    record {
      moved = moved;
      rises = rises_first sig_of_row number_of sorted up;
      first = λ sig.
          first_having sorted sig
          ∙ ap (λ (l : List Row). slice_get l 0)
          (sorted_having sig_of_row number_of (row_of rows) sig table sorted (alike_moved table sorted moved) (numbered_rises rows) up (all_told rows) (sorted_told rows sorted moved))
          ∙ sym (first_having table sig);
    }

-- a row, where it passes
passing : (b : Bool) (row : Row) → map pair_of (if b then row ∷ [] else []) ≡ fresh b (pair_of row)
passing true row = refl
passing false row = refl

-- the first rows with numbers are those of the table
first_upto : (rows : List Plain) (at : ℕ) → at ≤ length rows → map pair_of (filter (is_first (numbered 0 rows)) (take at (numbered 0 rows))) ≡ first_rows (take at rows)
first_upto rows zero within = refl
first_upto rows (suc at) within =
    let table = numbered 0 rows in
    let row = at_number at (get_or rows at (0, 0)) in
    let next : at + 1 ≡ suc at = omega arith in
    let here : get_or table at row ≡ row = numbered_at 0 at at rows row (omega arith) (omega arith) in
    ap (λ (k : ℕ). map pair_of (filter (is_first table) (take k table))) (sym next)
    ∙ ap (λ (l : List Row). map pair_of l) (filter_more (is_first table) table at row (omega (arith, many_numbered 0 rows)))
    ∙ ap (λ (r : Row). map pair_of (filter (is_first table) (take at table) ++ (if is_first table r then r ∷ [] else []))) here
    ∙ map-append pair_of (filter (is_first table) (take at table)) (if is_first table row then row ∷ [] else [])
    ∙ ap (λ (l : List Plain). l ++ map pair_of (if is_first table row then row ∷ [] else [])) (first_upto rows at (omega arith))
    ∙ ap (λ (l : List Plain). first_rows (take at rows) ++ l) (passing (is_first table row) row)
    ∙ sym (first_rows_more rows at (omega arith))
    ∙ ap (λ (k : ℕ). first_rows (take k rows)) next

first_of_all : (rows : List Plain) → map pair_of (filter (is_first (numbered 0 rows)) (numbered 0 rows)) ≡ first_rows rows
first_of_all rows =
    let table = numbered 0 rows in
    ap (λ (l : List Row). map pair_of (filter (is_first table) l)) (sym (take_all (length rows) table (omega (arith, many_numbered 0 rows))))
    ∙ first_upto rows (length rows) (omega arith)
    ∙ ap (λ (l : List Plain). first_rows l) (take_all (length rows) rows (omega arith))

-- a choice among rows, or among what they are without their numbers
chosen : (id : ℕ) (xs : List Row) → map sig_of_row (filter (λ (row : Row). row.id == id) xs) ≡ map (λ (row : Plain). row.0) (filter (λ (row : Plain). row.1 == id) (map pair_of xs))
chosen id [] = refl
chosen id (x ∷ xs) =
    let rest = chosen id xs in
    elim (x.id == id) as (λ b. map sig_of_row (if b then x ∷ filter (λ (row : Row). row.id == id) xs else filter (λ (row : Row). row.id == id) xs) ≡ map (λ (row : Plain). row.0) (if b then pair_of x ∷ filter (λ (row : Plain). row.1 == id) (map pair_of xs) else filter (λ (row : Plain). row.1 == id) (map pair_of xs)))
    [ true ↦ ap (λ (l : List ℕ). x.sig ∷ l) rest | false ↦ rest ]

module _ (rows : List Plain) (sorted firsts by_ids : List Row) (is : IsBySig rows sorted) (told : firsts ≡ filter (is_first sorted) sorted) (moved : IsPermutation firsts by_ids)
    (up : IsSortedBy (is_below id_of_row number_of) by_ids) where
  abbrev table : List Row
  table = numbered 0 rows

  same_rows : Alike (filter (is_first table) table) by_ids
  same_rows = λ f.
      alike_moved firsts by_ids moved f
      ∙ ap (λ (l : List Row). sum_by f l) (told ∙ filter_agree (is_first sorted) (is_first table) (λ row. ap (λ (o : Option Row). is_numbered o row.number) (is.first row.sig)) sorted)
      ∙ alike_filter (is_first table) table sorted (alike_moved table sorted is.moved) f

  all_told_by_id : All (Told rows) by_ids
  all_told_by_id =
      All-permutation (Told rows) firsts by_ids moved
      (All-same (Told rows) firsts (filter (is_first sorted) sorted) told (All-filter (is_first sorted) (Told rows) sorted (sorted_told rows sorted is.moved)))

  in_order : (id : ℕ) → having id_of_row id by_ids ≡ having id_of_row id (filter (is_first table) table)
  in_order id =
      sorted_having id_of_row number_of (row_of rows) id (filter (is_first table) table) by_ids same_rows
      (IsNonDecreasingBy-filter number_of (is_first table) table (numbered_rises rows)) up
      (All-filter (is_first table) (Told rows) table (all_told rows)) all_told_by_id

  served : (id : ℕ) → sigs_with by_ids id ≡ served_by rows id
  served id =
      ap (λ (l : List Row). map sig_of_row l) (in_order id)
      ∙ chosen id (filter (is_first table) table)
      ∙ ap (λ (l : List Plain). map (λ (row : Plain). row.0) (filter (λ (row : Plain). row.1 == id) l)) (first_of_all rows)

  pub by_id : IsById rows by_ids
  by_id = record {
    rises = rises_first id_of_row number_of by_ids up;
    same = served;
  }
