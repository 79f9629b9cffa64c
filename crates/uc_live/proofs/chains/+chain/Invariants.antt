use Rattle.std.proofs.Common.{◌+◌, ◌-◌, ◌*◌}
use Rattle.uc_live.proofs.chains.+chain.Given as goal

abbrev pub decreases-join+arg3 : goal.decreases-join+arg3
decreases-join+arg3 g l = 2 * (l.bay.now.plan.value.threads - l.zero.given) + 2

abbrev pub decreases-work_all : goal.decreases-work_all
decreases-work_all g l = 2 * (l.bay.now.plan.value.threads - l.zero.given) + 1
