-- How many signatures a table gives an id for.
use Rattle.std.proofs.Common.{ℕ, ◌≤◌, Bool, List, [], ◌∷◌, length, arith}
use Rattle.std.specs.Prelude.{not, filter, ◌==◌}
use Rattle.std.proofs.lemmas.List.{length-map}
use Rattle.std.proofs.lemmas.List.Sums.{length-filter, count_by-le-length}
use Rattle.entry_model.specs.Entry.{first_rows}
use Rattle.equiv_index.specs.Rows.{served_by}

abbrev Plain : Type 0
Plain = ℕ × ℕ

-- no more signatures than rows
few_first : (rows : List Plain) → length (first_rows rows) ≤ length rows
few_first [] = omega arith
few_first (x ∷ xs) =
    let p : Plain → Bool = λ other. not (other.0 == x.0) in
    omega (arith, few_first xs, length-filter p (first_rows xs), count_by-le-length p (first_rows xs))

pub few_served : (rows : List Plain) (id : ℕ) → length (served_by rows id) ≤ length rows
few_served rows id =
    let p : Plain → Bool = λ row. row.1 == id in
    omega (arith, few_first rows, length-filter p (first_rows rows), count_by-le-length p (first_rows rows), length-map (filter p (first_rows rows)) (λ (row : Plain). row.0))
