use Rattle.std.proofs.Common.{subst, ap}
use Rattle.uc_topology.specs.Stated.{Machine, IsPartition}
use Rattle.uc_topology.proofs.Kept.{partition_from}
use Rattle.uc_topology.proofs.topology.Topology.threads.Goals as goal

pub returns-clause-partition : goal.returns-clause-partition
returns-clause-partition c = subst IsPartition (ap (λ (m : Machine). m.stated) c.self.view_is) (partition_from c.self.inside.tables c.threads.ensures.groups c.self.invariant.2)
