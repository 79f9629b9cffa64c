use Rattle.std.proofs.Common.{◌≤◌, length}
use Rattle.session_parts.specs.Parts.{setting_of, state_of}
use Rattle.session_parts.specs.Plans.{AreByThread}
use Rattle.session_parts.proofs.parts.Parts.by_thread.Given as goal

abbrev pub invariant-threads : goal.invariant-threads
invariant-threads l = record {
  within : l.t ≤ length l.self.topology.stated.threads;
  so_far : AreByThread (setting_of l.self) (state_of l.self) l.t l.kind.items l.group.items;
}
