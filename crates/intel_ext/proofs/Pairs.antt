-- The pairs of a table, by their number.
use Rattle.std.proofs.Common.{◌≡◌, ℕ, ◌<◌, List, length, get_or, map, sym, ◌∙◌, ap, arith}
use Rattle.std.specs.List.{range_with_len}
use Rattle.std.proofs.lemmas.List.FromFn.{length-map-range_with_len, get_or-map-range_with_len}
use Rattle.intel_format.specs.Update.{entry_count, pair_at}

-- what a table is seen as
abbrev pub pairs_of : List ℕ → List (ℕ × ℕ)
pairs_of table = map (pair_at table) (range_with_len 0 (entry_count table))

pub length-pairs : (table : List ℕ) (pairs : List (ℕ × ℕ)) → pairs_of table ≡ pairs → length pairs ≡ entry_count table
length-pairs table pairs seen =
    ap (λ (l : List (ℕ × ℕ)). length l) (sym seen) ∙ length-map-range_with_len (pair_at table) 0 (entry_count table)

pub pair-in-pairs : (table : List ℕ) (pairs : List (ℕ × ℕ)) (i : ℕ) → pairs_of table ≡ pairs → i < length pairs → pair_at table i ≡ get_or pairs i (0, 0)
pair-in-pairs table pairs i seen inside =
    let within : i < entry_count table = omega (arith, length-pairs table pairs seen) in
    sym (get_or-map-range_with_len (pair_at table) 0 (entry_count table) i i (0, 0) within (omega arith)) ∙ ap (λ (l : List (ℕ × ℕ)). get_or l i (0, 0)) seen
