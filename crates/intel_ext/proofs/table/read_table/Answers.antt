use Rattle.std.proofs.Common.{sym, ◌∙◌, arith}
use Rattle.intel_ext.proofs.Entries.{entry_fault}
use Rattle.intel_ext.proofs.table.read_table.Goals as goal

pub returns-in-Some : goal.returns-in-Some
returns-in-Some c =
    entry_fault c.args.triple c.args.table.now c.in-Some.entry (omega arith) (omega arith) (sym c.word_sum.ensures ∙ c.if-word_sum-ne0.false) c.in-Some.ensures
