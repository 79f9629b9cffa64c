-- What an index is of.
use Rattle.std.specs.Prelude.{ℕ, ◌^◌, ◌<◌, List, length}
use Rattle.equiv_index.specs.declared.row.Row.{Row}
use Rattle.equiv_index.specs.Index.{IsBySig, IsById}

-- the two orders are those of the rows of a table
pub record IsIndexOf (rows : List (ℕ × ℕ)) (rising_sigs : List Row) (rising_ids : List Row) : Type 0 where
  pub by_sig : IsBySig rows rising_sigs
  pub by_id : IsById rows rising_ids
  pub few : length rows < 2 ^ 32
