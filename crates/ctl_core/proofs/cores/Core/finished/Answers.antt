use Rattle.std.proofs.Common.{◌∙◌}
use Rattle.ctl_core.specs.Cores.{plan_in, moment_in}
use Rattle.ctl_core.proofs.Shown.{lowest_unfinished-shown}
use Rattle.ctl_core.proofs.cores.Core.finished.Goals as goal

pub returns : goal.returns
returns c = c.first_unfinished.ensures ∙ lowest_unfinished-shown (plan_in c.args.self.now) (moment_in c.args.self.now)
