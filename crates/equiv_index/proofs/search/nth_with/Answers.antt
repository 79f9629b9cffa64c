use Rattle.std.proofs.Common.{◌≡◌, ℕ, ◌+◌, ◌<◌, ◌≢◌, true, false, List, Option, length, get_or, map, refl, sym, ap, ◌∙◌, arith, rules}
use Rattle.std.specs.Prelude.{nat_lt, slice_get}
use Rattle.std.specs.List.Sorted.{IsNonDecreasingBy, IsPartitionPoint}
use Rattle.std.specs.Option.{option_map}
use Rattle.std.proofs.lemmas.Option.{slice_get-map}
use Rattle.std.proofs.lemmas.Bool.Decides.{nat_tests}
use Rattle.std.proofs.lemmas.List.Sorted.{IsPartitionedBy-ltb, IsPartitionPoint-from_clause}
use Rattle.equiv_index.specs.declared.row.Row.{Row}
use Rattle.equiv_index.specs.Rows.{no_row}
use Rattle.equiv_index.proofs.Sorted.{having, if_having, nth_having, found_having, none_found}
use Rattle.equiv_index.proofs.search.nth_with.Goals as goal
use Rattle.equiv_index.proofs.search.nth_with.Goals.{else-at-rows-via-then-at-rows+else-rows-at, else-at-rows-via-else-at-rows}

abbrev id_of_row : Row → ℕ
id_of_row row = row.id

abbrev sig_of_row : Row → ℕ
sig_of_row row = row.sig

-- the rows with the id begin at the place where the rows below it end
from_place : (rows : List Row) (id at k place : ℕ) → IsNonDecreasingBy id_of_row rows → IsPartitionPoint (λ (row : Row). nat_lt row.id id ≡ true) (λ (row : Row). nat_lt row.id id ≡ false) rows at → place ≡ at + k
    → slice_get (map sig_of_row (having id_of_row id rows)) k ≡ option_map sig_of_row (if_having id_of_row id (slice_get rows place))
from_place rows id at k place up point is =
    slice_get-map sig_of_row (having id_of_row id rows) k
    ∙ ap (λ (o : Option Row). option_map sig_of_row o)
    (nth_having id_of_row id rows at k place up (λ j d before within. grind (arith, nat_tests, point.0 j d (omega arith) before)) (λ j d behind within. grind (arith, nat_tests, point.1 j d behind within)) is)

pub returns-then-rows-at : goal.returns-then-rows-at
returns-then-rows-at c =
    let rows = c.args.rows.now in
    let at = c.partition_point.result in
    let point = IsPartitionPoint-from_clause (λ (row : Row). nat_lt row.id c.args.id) rows at c.partition_point.ensures.partitioned (IsPartitionedBy-ltb id_of_row rows c.args.id c.requires) (λ a r q k. search rules) in
    sym (from_place rows c.args.id at c.args.k (at + c.args.k) c.requires point refl
    ∙ ap (λ (o : Option Row). option_map sig_of_row o) (found_having id_of_row c.args.id rows (at + c.args.k) no_row (omega arith) c.if-rows-at.true))

pub returns-else-at-rows : goal.returns-else-at-rows
returns-else-at-rows c =
    let rows = c.args.rows.now in
    let at = c.partition_point.result in
    let point = IsPartitionPoint-from_clause (λ (row : Row). nat_lt row.id c.args.id) rows at c.partition_point.ensures.partitioned (IsPartitionedBy-ltb id_of_row rows c.args.id c.requires) (λ a r q k. search rules) in
    let other : at + c.args.k < length rows → (get_or rows (at + c.args.k) no_row).id ≢ c.args.id =
    elim c.else-at-rows.branch [
      | else-at-rows-via-then-at-rows+else-rows-at w ↦ λ within. w.if-rows-at.false
      | else-at-rows-via-else-at-rows w ↦ λ within. absurd (omega arith)
    ] in
    sym (from_place rows c.args.id at c.args.k (at + c.args.k) c.requires point refl
    ∙ ap (λ (o : Option Row). option_map sig_of_row o) (none_found id_of_row c.args.id rows (at + c.args.k) no_row other))
