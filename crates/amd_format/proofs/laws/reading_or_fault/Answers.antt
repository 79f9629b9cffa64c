use Rattle.amd_format.proofs.OneFault.{never_both, one_fault}
use Rattle.amd_format.proofs.ReadingOrFault.{reading_or_fault}
use Rattle.amd_format.proofs.laws.reading_or_fault.Goals as goal

pub returns-clause-some : goal.returns-clause-some
returns-clause-some c = reading_or_fault

pub returns-clause-never_both : goal.returns-clause-never_both
returns-clause-never_both c = never_both

pub returns-clause-one_fault : goal.returns-clause-one_fault
returns-clause-one_fault c = one_fault
