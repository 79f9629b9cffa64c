use Rattle.std.proofs.Common.{◌≡◌, length, map, take}
use Rattle.machine_steps.specs.Hardware.{is_up}
use Rattle.hw_machine.proofs.tables.up_threads.Given as goal

-- those of the threads so far
abbrev pub invariant-loop-state : goal.invariant-loop-state
invariant-loop-state l = record {
  size : length l.up.items ≡ l.state-index;
  items : l.up.items ≡ map is_up (take l.state-index l.threads);
}
