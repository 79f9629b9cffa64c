use Rattle.std.proofs.Common.{sym, ◌∙◌}
use Rattle.amd_format.proofs.OneReading.{one_reading}
use Rattle.amd_format.proofs.laws.one_reading.Goals as goal

pub returns : goal.returns
returns c = λ bytes cs ds first second. one_reading cs ds first.each second.each (sym first.whole ∙ second.whole)
