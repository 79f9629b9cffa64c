use Rattle.std.proofs.Common.{ℕ, ◌+◌, ◌<◌, length, sym, ◌∙◌, ap, take, arith}
use Rattle.std.proofs.lemmas.Bool.{false≢true}
use Rattle.std.proofs.lemmas.List.{length-take-le}
use Rattle.std.proofs.lemmas.List.Sums.{count_by_more_yes, count_by_more_no, count_by-le-length}
use Rattle.equiv_index.specs.Rows.{is_first, no_row}
use Rattle.equiv_index.proofs.Runs.{begins, passed}
use Rattle.equiv_index.proofs.index.count_first.Goals as goal
use Rattle.equiv_index.proofs.index.count_first.Goals.{then-begins_run, else-begins_run}

pub overflow_add-count : goal.overflow_add-count
overflow_add-count c =
    let sorted = c.args.by_sig.now in
    let at = c.rows.at in
    omega (arith, c.rows.invariant, c.rows-test.true, c.requires.few, count_by-le-length (is_first sorted) (take at sorted), length-take-le at sorted (omega (arith, c.rows-test.true)))

pub rows-preserved : goal.rows-preserved
rows-preserved c =
    let sorted = c.args.by_sig.now in
    let at = c.rows.at in
    let within : at < length sorted = omega (arith, c.rows-test.true) in
    elim c.if-begins_run.branch [
      | then-begins_run w ↦
          w.count-is ∙ ap (λ (n : ℕ). n + 1) c.rows.invariant
          ∙ sym (count_by_more_yes (is_first sorted) sorted at no_row within (begins sorted c.requires.sorted at within (c.begins_run.ensures.0 w.if-begins_run.true)))
      | else-begins_run w ↦
          w.count-is ∙ c.rows.invariant
          ∙ sym (count_by_more_no (is_first sorted) sorted at no_row within (passed sorted at c.requires.apart within (λ runs. false≢true (sym w.if-begins_run.false ∙ c.begins_run.ensures.1 runs))))
    ]
