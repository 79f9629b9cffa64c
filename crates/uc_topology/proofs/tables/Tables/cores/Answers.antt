use Rattle.std.proofs.Common.{◌<◌, subst}
use Rattle.std.specs.List.{All}
use Rattle.uc_topology.specs.Stated.{Stated, group_count}
use Rattle.uc_topology.proofs.Kept.{groups_from}
use Rattle.uc_topology.proofs.tables.Tables.cores.Goals as goal

pub returns-clause-in_groups : goal.returns-clause-in_groups
returns-clause-in_groups c =
    subst (λ (stated : Stated). All (λ core. core.group < group_count stated.cores) stated.cores) c.self.view_is (groups_from _ _ _ _ c.self.invariant).in_groups
