use Rattle.std.proofs.Common.{below_more}
use Rattle.ctl_words.proofs.plans.Plan.groups_fit.Goals as goal

pub loop-group-preserved : goal.loop-group-preserved
loop-group-preserved c = below_more _ _ c.loop-group.invariant (c.group_fits.ensures.0 c.if-not-group_fits.false)
