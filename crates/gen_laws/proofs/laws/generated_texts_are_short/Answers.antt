use Rattle.gen_laws.proofs.Lengths.{topology_short, script_short}
use Rattle.gen_laws.proofs.laws.generated_texts_are_short.Goals as goal

pub returns-clause-topology : goal.returns-clause-topology
returns-clause-topology c = topology_short

pub returns-clause-script : goal.returns-clause-script
returns-clause-script c = script_short
