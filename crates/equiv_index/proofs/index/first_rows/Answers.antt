use Rattle.std.proofs.Common.{◌<◌, List, ◌∷◌, [], ◌++◌, length, sym, ◌∙◌, ap, arith}
use Rattle.std.specs.Prelude.{Vec}
use Rattle.std.specs.declared.alloc.Global.{Global}
use Rattle.std.proofs.lemmas.Bool.{false≢true}
use Rattle.equiv_index.specs.declared.row.Row.{Row}
use Rattle.equiv_index.specs.Rows.{row_at}
use Rattle.equiv_index.proofs.Runs.{begins, passed, one_more, no_more}
use Rattle.equiv_index.proofs.index.first_rows.Goals as goal
use Rattle.equiv_index.proofs.index.first_rows.Goals.{then-begins_run+in_ok-push, else-begins_run}

abbrev items_of : Vec Row Global → List Row
items_of v = v.items

pub rows-preserved : goal.rows-preserved
rows-preserved c =
    let sorted = c.args.by_sig.now in
    let at = c.rows.at in
    let within : at < length sorted = omega (arith, c.rows-test.true) in
    elim c.if-begins_run.branch [
      | then-begins_run+in_ok-push w ↦
          ap items_of w.firsts-is ∙ w.in_ok-push.ensures.items
          ∙ ap (λ (l : List Row). l ++ row_at sorted at ∷ []) c.rows.invariant
          ∙ sym (one_more sorted at within (begins sorted c.requires.sorted at within (c.begins_run.ensures.0 w.if-begins_run.true)))
      | else-begins_run w ↦
          ap items_of w.firsts-is
          ∙ c.rows.invariant
          ∙ sym (no_more sorted at within (passed sorted at c.requires.apart within (λ runs. false≢true (sym w.if-begins_run.false ∙ c.begins_run.ensures.1 runs))))
    ]
