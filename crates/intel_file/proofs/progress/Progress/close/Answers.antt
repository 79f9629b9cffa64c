use Rattle.std.proofs.Common.{refl}
use Rattle.intel_file.proofs.Steps.{sum_fails, sum_holds}
use Rattle.intel_file.proofs.progress.Progress.close.Goals as goal

pub returns-then-self-ne0 : goal.returns-then-self-ne0
returns-then-self-ne0 c = λ own listed whole counted. sum_fails c.args.self.now own listed whole c.if-self-ne0.true

pub returns : goal.returns
returns c = λ own listed whole counted. (sum_holds c.args.self.now own listed whole c.if-self-ne0.false, counted, (refl, refl))
