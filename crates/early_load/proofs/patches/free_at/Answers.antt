use Rattle.std.proofs.Common.{sym, ◌∙◌}
use Rattle.early_load.proofs.Kept.{nothing_out}
use Rattle.early_load.proofs.patches.free_at.Goals as goal

pub returns-else-holds-clause-freed : goal.returns-else-holds-clause-freed
returns-else-holds-clause-freed c = nothing_out _ _ (sym c.holds.ensures ∙ c.if-holds.false)
