use Rattle.std.proofs.Common.{ℕ, rules}
use Rattle.std.proofs.lemmas.List.Sorted.{answers_always}
use Rattle.equiv_index.specs.declared.row.Row.{Row}
use Rattle.equiv_index.specs.Rows.{rows_in}
use Rattle.equiv_index.proofs.Numbers.{apart}
use Rattle.equiv_index.proofs.Orders.{by_id}
use Rattle.equiv_index.proofs.index.rows_by_id.Goals as goal

abbrev key_of : Row → ℕ × ℕ
key_of row = (row.id, row.number)

pub first_rows-requires-clause-apart : goal.first_rows-requires-clause-apart
first_rows-requires-clause-apart c =
    let sorted = c.args.by_sig.now in
    apart (rows_in sorted) sorted c.requires.order.moved

pub returns : goal.returns
returns c =
    let sorted = c.args.by_sig.now in
    by_id (rows_in sorted) sorted c.in_ok-firsts.firsts.items c.sort_unstable_by_key.new.self.items c.requires.order c.in_ok-firsts.ensures c.sort_unstable_by_key.ensures.permutation
    (c.sort_unstable_by_key.ensures.sorted key_of (answers_always _ _ _ (λ f a r f' k. search rules)))
