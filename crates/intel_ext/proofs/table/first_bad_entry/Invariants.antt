use Rattle.std.proofs.Common.{◌≡◌, ℕ, ◌<◌}
use Rattle.intel_format.specs.Update.{entry_sum}
use Rattle.intel_ext.proofs.table.first_bad_entry.Given as goal

abbrev pub invariant-loop-entry : goal.invariant-loop-entry
invariant-loop-entry l = (j : ℕ) → j < l.entry → entry_sum l.table j ≡ l.triple
