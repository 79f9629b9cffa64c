-- What is known of an extended signature table of which the front came.
use Rattle.std.specs.Prelude.{◌≡◌, ◌≢◌, ℕ, ◌+◌, ◌*◌, ◌^◌, ◌<◌, List, length, map, Option, Some, None}
use Rattle.std.specs.List.{range_with_len}
use Rattle.uc_bytes.specs.Words.{word_sum_of}
use Rattle.intel_format.specs.Update.{entry_count, entry_sum, pair_at}
use Rattle.intel_ext.specs.declared.so_far.TableSoFar.{TableSoFar}

-- which of so many entries is the first that has another sum, if one has
abbrev pub IsFirstBad : ℕ → List ℕ → ℕ → Option ℕ → Type 0
IsFirstBad triple table came None = (i : ℕ) → i < came → entry_sum table i ≡ triple
IsFirstBad triple table came (Some bad) =
    (bad < came) × (entry_sum table bad ≢ triple) × ((j : ℕ) → j < bad → entry_sum table j ≡ triple)

-- the head and so many entries
pub record IsTableSoFar (triple : ℕ) (table : List ℕ) (known : TableSoFar) (pairs : List (ℕ × ℕ)) : Type 0 where
  pub long : length table ≡ 20 + 12 * known.came
  pub fits : known.count < 2 ^ 32
  pub count : known.count ≡ entry_count table
  pub sum : known.sum ≡ word_sum_of table
  pub bad : IsFirstBad triple table known.came known.bad
  pub entries : pairs ≡ map (pair_at table) (range_with_len 0 known.came)
