use Rattle.std.proofs.Common.{◌≡◌, length, map}
use Rattle.std.specs.List.{range_with_len}
use Rattle.uc_topology.specs.Stated.{group_facts}
use Rattle.hw_machine.proofs.tables.firmware_revisions.Given as goal

-- those of the groups so far
abbrev pub invariant-loop-group : goal.invariant-loop-group
invariant-loop-group l = record {
  size : length l.revisions.items ≡ l.group;
  items : l.revisions.items ≡ map (λ g. (group_facts l.topology.stated.cores g).rev) (range_with_len 0 l.group);
}
