use Rattle.entry_laws.proofs.Readings.{one_list_of_entries}
use Rattle.entry_laws.proofs.laws.one_list_of_entries.Goals as goal

pub returns : goal.returns
returns c = one_list_of_entries
