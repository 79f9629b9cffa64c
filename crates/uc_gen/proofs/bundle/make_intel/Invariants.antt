use Rattle.std.proofs.Common.{◌≡◌, ◌*◌}
use Rattle.uc_gen.specs.Draws.{state_after}
use Rattle.uc_gen.specs.Bundle.{updates}
use Rattle.uc_gen.proofs.bundle.make_intel.Given as goal

abbrev pub invariant-updates : goal.invariant-updates
invariant-updates l = record {
  bytes : l.bytes.items ≡ updates l.number l.counter;
  state : l.draws.state ≡ state_after l.number (503 * l.counter);
}
