use Rattle.std.proofs.Common.{sym, ◌∙◌}
use Rattle.intel_format.proofs.OneReading.{one_reading}
use Rattle.intel_format.proofs.laws.one_reading.Goals as goal

pub returns : goal.returns
returns c = λ bytes us vs first second. one_reading us vs first.each second.each (sym first.whole ∙ second.whole)
