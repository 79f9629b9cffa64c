use Rattle.uc_script.proofs.Read.{read_states, read_within, read_faults}
use Rattle.uc_script.proofs.reading.read_script.Goals as goal

pub returns-clause-states : goal.returns-clause-states
returns-clause-states c = read_states _ _ _ c.read.ensures

pub returns-clause-within : goal.returns-clause-within
returns-clause-within c = read_within _ _ _ c.read.ensures

pub returns-clause-fault : goal.returns-clause-fault
returns-clause-fault c = read_faults _ _ _ c.read.ensures
