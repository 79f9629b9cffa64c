use Rattle.std.proofs.Common.{◌≡◌, ◌*◌}
use Rattle.uc_gen.specs.Draws.{state_after}
use Rattle.uc_gen.specs.Containers.{containers}
use Rattle.uc_gen.proofs.containers.make_amd.Given as goal

abbrev pub invariant-containers : goal.invariant-containers
invariant-containers l = record {
  bytes : l.bytes.items ≡ containers l.number l.counter;
  state : l.draws.state ≡ state_after l.number (5 * l.counter);
}
