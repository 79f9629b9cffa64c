use Rattle.std.proofs.Common.{◌∙◌}
use Rattle.ctl_core.specs.Cores.{plan_in, moment_in}
use Rattle.ctl_core.proofs.Over.{over_by_count}
use Rattle.ctl_core.proofs.cores.Core.is_over.Goals as goal

pub returns : goal.returns
returns c =
    over_by_count (plan_in c.args.self.now) (moment_in c.args.self.now) c.unfinished.result (c.unfinished.ensures ∙ c.args.self.now.fits.counted)
