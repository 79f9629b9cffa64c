use Rattle.std.proofs.Common.{◌≡◌, ℕ, ◌<◌, false}
use Rattle.session_steps.specs.State.{is_missing}
use Rattle.session_parts.specs.Parts.{setting_of, state_of}
use Rattle.session_parts.proofs.parts.Parts.first_missing.Given as goal

-- no thread so far is missing
abbrev pub invariant-threads : goal.invariant-threads
invariant-threads l =
    (t : ℕ) → t < l.t → is_missing (setting_of l.self) (state_of l.self) t ≡ false
