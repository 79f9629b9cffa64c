use Rattle.std.proofs.Common.{◌≡◌, ℕ, ◌+◌, ◌-◌, ◌<◌, ◌≤◌, List, ◌++◌, length, take, drop, ◌∙◌, ap, subst, arith, length-drop}
use Rattle.std.proofs.lemmas.Slice.{between_to_end}
use Rattle.file_rows.specs.PatchWalk.{Gathers}
use Rattle.file_rows.proofs.Pieces.{kept_through, come_on}
use Rattle.file_rows.proofs.PatchWalks.{gathered_on}
use Rattle.file_rows.proofs.patch_walk.gather_piece.Goals as goal

pub piece-preserved : goal.piece-preserved
piece-preserved c =
    let piece = c.args.piece.now in
    let at = c.piece.at in
    let n = c.take-taken.result.len in
    let tail : take (length piece - at) (drop at piece) ≡ drop at piece = between_to_end piece at (length piece) (omega arith) in
    let within : at + n ≤ length piece = omega (arith, c.take-taken.ensures.within, ap length tail, length-drop at piece, c.piece-test.true) in
    let some : 0 < n = c.take-taken.ensures.some (omega (arith, ap length tail, length-drop at piece, c.piece-test.true)) in
    let was = c.args.gathered.now in
    let old = c.piece.gathered in
    let new = c.add.new.self in
    let rows_long : old.rows.rows.len ≡ length old.rows.rows.items = omega (arith, old.rows.rows.ok.0) in
    let tables_long : old.rows.tables.len ≡ length old.rows.tables.items = omega (arith, old.rows.tables.ok.0) in
    let table_long : old.table.len ≡ length old.table.items = omega (arith, old.table.ok.0) in
    record {
      within = within;
      fed = omega (arith, c.take-taken.ensures.fed, c.piece.invariant.fed);
      few_table = omega (arith, c.in_ok-add.ensures.few_table, c.piece.invariant.few_table, c.take-taken.ensures.fed, some);
      few_fresh = omega (arith, c.in_ok-add.ensures.few_fresh, c.piece.invariant.few_fresh, c.take-taken.ensures.fed, some);
      gathers = λ bytes begun.
          let before = c.piece.invariant.gathers bytes begun in
          let taken = c.take-taken.ensures.taken (bytes ++ take at piece) before.told before.stands in
          subst (λ (l : List ℕ). Gathers l c.take-taken.new.self new) (ap (λ (l : List ℕ). (bytes ++ take at piece) ++ take n l) tail ∙ come_on bytes piece at n)
          (gathered_on c.take-taken.result.part ((bytes ++ take at piece) ++ take n (take (length piece - at) (drop at piece))) before.told c.take-taken.new.self old new taken before.sum c.in_ok-add.ensures.ok);
      rows = kept_through was.rows.rows.items old.rows.rows.items new.rows.rows.items c.piece.invariant.rows (subst (λ (k : ℕ). take k new.rows.rows.items ≡ old.rows.rows.items) rows_long c.in_ok-add.ensures.rows);
      tables = kept_through was.rows.tables.items old.rows.tables.items new.rows.tables.items c.piece.invariant.tables (subst (λ (k : ℕ). take k new.rows.tables.items ≡ old.rows.tables.items) tables_long c.in_ok-add.ensures.tables);
      table = kept_through was.table.items old.table.items new.table.items c.piece.invariant.table (subst (λ (k : ℕ). take k new.table.items ≡ old.table.items) table_long c.in_ok-add.ensures.table);
    }
