use Rattle.std.proofs.Common.{◌≡◌, ℕ, List, ◌++◌, length, ◌∙◌, ap, arith, append_assoc}
use Rattle.std.specs.Prelude.{option_to_list}
use Rattle.file_rows.specs.UpdateRows.{pairs_of_updates}
use Rattle.file_rows.proofs.UpdateReads.{walked_by}
use Rattle.file_rows.proofs.update_walk.add.Goals as goal

pub returns-clause-added : goal.returns-clause-added
returns-clause-added c = λ walk bytes us pairs header has taken.
    let brought = option_to_list c.args.took.now.pair in
    let counted : c.len.result ≡ length c.add_pair.new.pairs.items = omega (arith, c.len.ensures, c.add_pair.new.pairs.ok.0) in
    walked_by c.add_update.result c.args.took.now.what c.args.header.now walk bytes us (pairs ++ brought) c.args.rows.now.rows.items c.len.result _ header taken has.kept_rows counted c.add_update.ensures.ok c.add_update.ensures.fault
    (c.in-Ok.ensures.ok ∙ ap (λ (l : List (ℕ × ℕ)). l ++ brought) has.kept_pairs ∙ append_assoc (pairs_of_updates us) pairs brought)
