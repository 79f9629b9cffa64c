use Rattle.std.proofs.Common.{◌<◌, ◌^◌, ℕ, List, length, sym, ◌∙◌, ap, subst, arith}
use Rattle.std.specs.Prelude.{slice_get}
use Rattle.std.specs.List.Sorted.{IsNonDecreasingBy}
use Rattle.equiv_index.specs.declared.row.Row.{Row}
use Rattle.equiv_index.specs.Rows.{rows_in, sigs_with, served_by}
use Rattle.equiv_index.proofs.Served.{few_served}
use Rattle.equiv_index.proofs.index.RowIndex.served.Goals as goal

pub nth_with-requires : goal.nth_with-requires
nth_with-requires c = subst (λ (l : List Row). IsNonDecreasingBy (λ (row : Row). row.id) l) (sym c.as_slice.ensures.value) c.self.invariant.by_id.rises

pub returns-clause-value : goal.returns-clause-value
returns-clause-value c =
    let id = c.args.id in
    let k = c.args.k in
    c.nth_with.ensures
    ∙ ap (λ (l : List Row). slice_get (sigs_with l id) k) c.as_slice.ensures.value
    ∙ ap (λ (l : List ℕ). slice_get l k) (c.self.invariant.by_id.same id)
    ∙ ap (λ (rows : List (ℕ × ℕ)). slice_get (served_by rows id) k) c.self.view_is

pub returns-clause-few : goal.returns-clause-few
returns-clause-few c =
    let rows = rows_in c.self.inside.by_sig.items in
    subst (λ (l : List (ℕ × ℕ)). length (served_by l c.args.id) < 2 ^ 32) c.self.view_is (omega (arith, few_served rows c.args.id, c.self.invariant.few))
