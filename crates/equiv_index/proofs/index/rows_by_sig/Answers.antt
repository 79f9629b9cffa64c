use Rattle.std.proofs.Common.{ℕ, List, subst, rules}
use Rattle.std.specs.List.Sorted.{IsPermutation}
use Rattle.std.proofs.lemmas.List.Sorted.{answers_always}
use Rattle.equiv_index.specs.declared.row.Row.{Row}
use Rattle.equiv_index.proofs.Orders.{by_sig}
use Rattle.equiv_index.proofs.index.rows_by_sig.Goals as goal

abbrev key_of : Row → ℕ × ℕ
key_of row = (row.sig, row.number)

pub returns : goal.returns
returns c =
    let sorted = c.sort_unstable_by_key.new.self.items in
    by_sig c.args.rows.now sorted
    (subst (λ (l : List Row). IsPermutation l sorted) c.in_ok-sorted.ensures c.sort_unstable_by_key.ensures.permutation)
    (c.sort_unstable_by_key.ensures.sorted key_of (answers_always _ _ _ (λ f a r f' k. search rules)))
