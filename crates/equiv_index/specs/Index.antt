-- The two orders of a table's rows.
use Rattle.std.specs.Prelude.{◌≡◌, ◌≢◌, ℕ, ◌-◌, ◌<◌, List}
use Rattle.std.specs.List.Sorted.{IsNonDecreasingBy, IsPermutation}
use Rattle.equiv_index.specs.declared.row.Row.{Row}
use Rattle.equiv_index.specs.Rows.{numbered, first_with, row_at, sigs_with, served_by}

-- these are the rows; they rise by signature, and the first of each signature is that of the table
pub record IsBySig (rows : List (ℕ × ℕ)) (sorted : List Row) : Type 0 where
  pub moved : IsPermutation (numbered 0 rows) sorted
  pub rises : IsNonDecreasingBy (λ row. row.sig) sorted
  pub first : (sig : ℕ) → first_with sorted sig ≡ first_with (numbered 0 rows) sig

-- these rise by id, and give the signatures that each id is for, in the order of the table
pub record IsById (rows : List (ℕ × ℕ)) (sorted : List Row) : Type 0 where
  pub rises : IsNonDecreasingBy (λ row. row.id) sorted
  pub same : (id : ℕ) → sigs_with sorted id ≡ served_by rows id

-- no row of the same signature stands directly before this one
abbrev pub BeginsRun : List Row → ℕ → Type 0
BeginsRun sorted at = 0 < at → (row_at sorted (at - 1)).sig ≢ (row_at sorted at).sig
