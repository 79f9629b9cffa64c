-- The rows of an equivalence table, in their order.
use Rattle.std.specs.Prelude.{ℕ, ◌+◌, ◌==◌, Bool, false, Option, Some, None, if◌then◌else◌, List, [], ◌∷◌, length, map, filter, slice_index_or}
use Rattle.std.specs.List.{range_with_len}
use Rattle.entry_model.specs.Entry.{first_rows}
use Rattle.equiv_index.specs.declared.row.Row.{Row}

-- rows with their numbers, from a number on
abbrev pub numbered : ℕ → List (ℕ × ℕ) → List Row
numbered number [] = []
numbered number (row ∷ rows) =
    record { sig = row.0; number = number; id = row.1 } ∷ numbered (number + 1) rows

-- the signature and id of the row with a number, and those of all rows in the order of their numbers
abbrev pub numbered_in : List Row → ℕ → ℕ × ℕ
numbered_in [] number = (0, 0)
numbered_in (row ∷ rows) number = if row.number == number then (row.sig, row.id) else numbered_in rows number

abbrev pub rows_in : List Row → List (ℕ × ℕ)
rows_in rows = map (numbered_in rows) (range_with_len 0 (length rows))

-- the first row with a signature
abbrev pub first_with : List Row → ℕ → Option Row
first_with [] sig = None
first_with (row ∷ rows) sig = if row.sig == sig then Some row else first_with rows sig

-- there is a row, with this number
abbrev pub is_numbered : Option Row → ℕ → Bool
is_numbered None number = false
is_numbered (Some row) number = row.number == number

-- no row before it has its signature
abbrev pub is_first : List Row → Row → Bool
is_first rows row = is_numbered (first_with rows row.sig) row.number

-- a row of no meaning
abbrev pub no_row : Row
no_row = record { sig = 0; number = 0; id = 0 }

-- the row at a place
abbrev pub row_at : List Row → ℕ → Row
row_at rows place = slice_index_or rows place no_row

-- the signatures of those that have an id
abbrev pub sigs_with : List Row → ℕ → List ℕ
sigs_with rows id = map (λ row. row.sig) (filter (λ row. row.id == id) rows)

-- the signatures whose first row gives the id
abbrev pub served_by : List (ℕ × ℕ) → ℕ → List ℕ
served_by rows id =
    map (λ row. row.0) (filter (λ row. row.1 == id) (first_rows rows))
