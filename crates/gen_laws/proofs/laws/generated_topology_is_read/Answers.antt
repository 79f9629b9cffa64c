use Rattle.gen_laws.proofs.Topology.{topology_states}
use Rattle.gen_laws.proofs.laws.generated_topology_is_read.Goals as goal

pub returns : goal.returns
returns c = topology_states
