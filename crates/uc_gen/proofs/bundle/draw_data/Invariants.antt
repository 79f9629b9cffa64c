use Rattle.std.proofs.Common.{◌≡◌, ◌+◌, ℕ, length}
use Rattle.uc_gen.specs.Draws.{state_after}
use Rattle.uc_gen.specs.Bundle.{draws_behind}
use Rattle.uc_gen.proofs.bundle.draw_data.Given as goal

abbrev pub invariant-words : goal.invariant-words
invariant-words l = record {
  count : length l.words.items ≡ l.counter;
  words : (number before : ℕ) → l.fn.draws.state ≡ state_after number before → l.words.items ≡ draws_behind number before l.counter;
  state : (number before : ℕ) → l.fn.draws.state ≡ state_after number before → l.draws.state ≡ state_after number (before + l.counter);
}
