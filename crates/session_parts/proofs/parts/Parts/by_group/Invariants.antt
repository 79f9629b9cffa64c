use Rattle.std.proofs.Common.{◌≤◌}
use Rattle.uc_topology.specs.Stated.{group_count}
use Rattle.session_parts.specs.Parts.{setting_of, state_of}
use Rattle.session_parts.specs.Plans.{AreByGroup}
use Rattle.session_parts.proofs.parts.Parts.by_group.Given as goal

abbrev pub invariant-groups : goal.invariant-groups
invariant-groups l = record {
  within : l.g ≤ group_count l.self.topology.stated.cores;
  so_far : AreByGroup (setting_of l.self) (state_of l.self) l.g l.primary.items l.refuse.items l.rev0.items;
}
