use Rattle.uc_topology.proofs.Laws.{read_states}
use Rattle.uc_topology.proofs.reading.read_topology.Goals as goal

pub returns-clause-stated : goal.returns-clause-stated
returns-clause-stated c = (read_states c.args.bytes.now c.read.result c.read.ensures).0

pub returns-clause-fault : goal.returns-clause-fault
returns-clause-fault c = (read_states c.args.bytes.now c.read.result c.read.ensures).1
