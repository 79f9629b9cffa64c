use Rattle.std.proofs.Common.{◌≡◌, ◌≤◌, Some, map}
use Rattle.std.specs.List.{range_with_len}
use Rattle.uc_topology.specs.Stated.{group_count}
use Rattle.tool_text.specs.report_text.Offers.{facts_of_group}
use Rattle.uc_cli.proofs.select.cores_of.Given as goal

abbrev pub invariant-cores : goal.invariant-cores
invariant-cores l = record {
  within : l.group ≤ group_count l.topology.stated.cores;
  so_far : l.cores.items ≡ map (λ group. Some (facts_of_group l.topology group)) (range_with_len 0 l.group);
}
