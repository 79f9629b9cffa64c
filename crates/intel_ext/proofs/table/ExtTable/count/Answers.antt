use Rattle.std.proofs.Common.{sym, ◌∙◌}
use Rattle.intel_ext.proofs.Pairs.{length-pairs}
use Rattle.intel_ext.proofs.table.ExtTable.count.Goals as goal

pub returns : goal.returns
returns c = c.word_at.ensures ∙ sym (length-pairs _ _ c.self.view_is)
