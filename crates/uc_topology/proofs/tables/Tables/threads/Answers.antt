use Rattle.std.proofs.Common.{subst}
use Rattle.uc_topology.specs.Stated.{AreGroups}
use Rattle.uc_topology.proofs.Kept.{groups_from}
use Rattle.uc_topology.proofs.tables.Tables.threads.Goals as goal

pub returns-clause-groups : goal.returns-clause-groups
returns-clause-groups c = subst AreGroups c.self.view_is (groups_from _ _ _ _ c.self.invariant)
