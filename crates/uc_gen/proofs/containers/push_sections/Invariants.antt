use Rattle.std.proofs.Common.{◌≡◌, ◌+◌, ◌++◌, ℕ}
use Rattle.uc_gen.specs.Draws.{state_after}
use Rattle.uc_gen.specs.Bundle.{bytes_of}
use Rattle.uc_gen.specs.Containers.{sections}
use Rattle.uc_gen.proofs.containers.push_sections.Given as goal

abbrev pub invariant-patches : goal.invariant-patches
invariant-patches l = record {
  bytes : (number before : ℕ) → l.fn.draws.state ≡ state_after number before → l.bytes.items ≡ l.fn.bytes.items ++ bytes_of (sections number before l.id l.counter);
  state : (number before : ℕ) → l.fn.draws.state ≡ state_after number before → l.draws.state ≡ state_after number (before + l.counter);
}
