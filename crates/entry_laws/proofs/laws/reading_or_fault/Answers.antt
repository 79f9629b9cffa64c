use Rattle.entry_laws.proofs.Readings.{reading_or_fault, never_both, one_reading, one_fault}
use Rattle.entry_laws.proofs.laws.reading_or_fault.Goals as goal

pub returns : goal.returns
returns c = record { some = reading_or_fault; never_both = never_both; one_reading = one_reading; one_fault = one_fault }
