use Rattle.std.proofs.Common.{◌≡◌, ℕ, ◌<◌, ◌≢◌, true, false, List, length, get_or, sym, ◌∙◌, arith, rules}
use Rattle.std.specs.Prelude.{nat_lt, slice_get}
use Rattle.std.specs.List.Sorted.{IsNonDecreasingBy, IsPartitionPoint}
use Rattle.std.proofs.lemmas.Bool.Decides.{nat_tests}
use Rattle.std.proofs.lemmas.List.Sorted.{IsPartitionedBy-ltb, IsPartitionPoint-from_clause}
use Rattle.equiv_index.specs.declared.row.Row.{Row}
use Rattle.equiv_index.specs.Rows.{first_with}
use Rattle.equiv_index.proofs.Sorted.{if_having, nth_having, found_having, none_found}
use Rattle.equiv_index.proofs.FirstRows.{first_having}
use Rattle.equiv_index.proofs.search.first_with.Goals as goal
use Rattle.equiv_index.proofs.search.first_with.Goals.{else-at-rows-via-then-at-rows+else-rows-at, else-at-rows-via-else-at-rows}

abbrev no_row : Row
no_row = record { sig = 0; number = 0; id = 0 }

abbrev sig_of : Row → ℕ
sig_of row = row.sig

-- the first row is the one at the place where the rows below the signature end, where it has that
at_place : (rows : List Row) (sig at : ℕ) → IsNonDecreasingBy sig_of rows → IsPartitionPoint (λ (row : Row). nat_lt row.sig sig ≡ true) (λ (row : Row). nat_lt row.sig sig ≡ false) rows at → first_with rows sig ≡ if_having sig_of sig (slice_get rows at)
at_place rows sig at up point =
    first_having rows sig
    ∙ nth_having sig_of sig rows at 0 at up (λ j d before within. grind (arith, nat_tests, point.0 j d (omega arith) before)) (λ j d behind within. grind (arith, nat_tests, point.1 j d behind within)) (omega arith)

pub returns-then-rows-at : goal.returns-then-rows-at
returns-then-rows-at c =
    let rows = c.args.rows.now in
    let point = IsPartitionPoint-from_clause (λ (row : Row). nat_lt row.sig c.args.sig) rows c.partition_point-at.result c.partition_point-at.ensures.partitioned (IsPartitionedBy-ltb sig_of rows c.args.sig c.requires) (λ a r q k. search rules) in
    sym (at_place rows c.args.sig c.partition_point-at.result c.requires point ∙ found_having sig_of c.args.sig rows c.partition_point-at.result no_row (omega arith) c.if-rows-at.true)

pub returns-else-at-rows : goal.returns-else-at-rows
returns-else-at-rows c =
    let rows = c.args.rows.now in
    let point = IsPartitionPoint-from_clause (λ (row : Row). nat_lt row.sig c.args.sig) rows c.partition_point-at.result c.partition_point-at.ensures.partitioned (IsPartitionedBy-ltb sig_of rows c.args.sig c.requires) (λ a r q k. search rules) in
    let other : c.partition_point-at.result < length rows → (get_or rows c.partition_point-at.result no_row).sig ≢ c.args.sig =
    elim c.else-at-rows.branch [
      | else-at-rows-via-then-at-rows+else-rows-at w ↦ λ within. w.if-rows-at.false
      | else-at-rows-via-else-at-rows w ↦ λ within. absurd (omega arith)
    ] in
    sym (at_place rows c.args.sig c.partition_point-at.result c.requires point ∙ none_found sig_of c.args.sig rows c.partition_point-at.result no_row other)
