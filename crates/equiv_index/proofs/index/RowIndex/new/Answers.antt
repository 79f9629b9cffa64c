use Rattle.std.proofs.Common.{◌<◌, ◌^◌, ℕ, List, length, sym, subst, arith}
use Rattle.equiv_index.specs.declared.row.Row.{Row}
use Rattle.equiv_index.specs.Rows.{rows_in}
use Rattle.equiv_index.specs.Index.{IsBySig, IsById}
use Rattle.equiv_index.proofs.Numbers.{all_rows, many_sorted}
use Rattle.equiv_index.proofs.index.RowIndex.new.Goals as goal

pub rows_by_id-requires-clause-few : goal.rows_by_id-requires-clause-few
rows_by_id-requires-clause-few c =
    subst (λ (l : List Row). length l < 2 ^ 32) (sym c.as_slice.ensures.value)
    (omega (arith, c.requires, many_sorted c.args.rows.now c.in_ok-by_sig.by_sig.items c.in_ok-by_sig.ensures.moved))

pub rows_by_id-requires-clause-order : goal.rows_by_id-requires-clause-order
rows_by_id-requires-clause-order c =
    let by_sig = c.in_ok-by_sig.by_sig.items in
    subst (λ (l : List Row). IsBySig (rows_in l) l) (sym c.as_slice.ensures.value)
    (subst (λ (rows : List (ℕ × ℕ)). IsBySig rows by_sig) (sym (all_rows c.args.rows.now by_sig c.in_ok-by_sig.ensures.moved)) c.in_ok-by_sig.ensures)

pub invariant_of-result : goal.invariant_of-result
invariant_of-result c =
    let by_sig = c.in_ok-by_sig.by_sig.items in
    let is = all_rows c.args.rows.now by_sig c.in_ok-by_sig.ensures.moved in
    record {
      by_sig = subst (λ (rows : List (ℕ × ℕ)). IsBySig rows by_sig) (sym is) c.in_ok-by_sig.ensures;
      by_id = subst (λ (l : List Row). IsById (rows_in l) c.in_ok-by_id.by_id.items) c.as_slice.ensures.value c.in_ok-by_id.ensures;
      few = subst (λ (rows : List (ℕ × ℕ)). length rows < 2 ^ 32) (sym is) c.requires;
    }

pub returns : goal.returns
returns c = all_rows c.args.rows.now c.in_ok-by_sig.by_sig.items c.in_ok-by_sig.ensures.moved
