use Rattle.std.proofs.Common.{◌≡◌, ℕ, ◌<◌, false}
use Rattle.session_parts.specs.Parts.{setting_of, state_of}
use Rattle.session_parts.proofs.Present.{is_part}
use Rattle.session_parts.proofs.parts.Parts.core_takes_part.Given as goal

-- no thread so far is one of the core that takes part
abbrev pub invariant-threads : goal.invariant-threads
invariant-threads l =
    (t : ℕ) → t < l.t → is_part (setting_of l.self) (state_of l.self) l.core t ≡ false
