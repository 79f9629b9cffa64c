use Rattle.std.proofs.Common.{◌≡◌}
use Rattle.hw_machine.specs.Machine.{setting_of, hardware_of}
use Rattle.session_parts.specs.Loads.{with_revisions}
use Rattle.session_parts.proofs.loads.set_revisions.Given as goal

-- the groups so far have their revisions
abbrev pub invariant-groups : goal.invariant-groups
invariant-groups l = record {
  set : hardware_of l.machine ≡ with_revisions (hardware_of l.fn.machine) l.revs l.g;
  same : setting_of l.machine ≡ setting_of l.fn.machine;
}
