use Rattle.std.proofs.Common.{◌≡◌, length, take}
use Rattle.uc_topology.specs.Stated.{thread_groups}
use Rattle.hw_machine.proofs.tables.groups_of.Given as goal

-- those of the threads so far
abbrev pub invariant-loop-thread : goal.invariant-loop-thread
invariant-loop-thread l = record {
  size : length l.groups.items ≡ l.thread;
  items : l.groups.items ≡ take l.thread (thread_groups l.topology.stated);
}
