-- How a run ends whose session came to an answer.
use Rattle.std.specs.Prelude.{◌≡◌, ℕ, List}
use Rattle.tool_text.specs.session_text.declared.answers.SessionAnswer.{SessionAnswer}
use Rattle.tool_text.specs.session_text.declared.answers.SessionAnswer.TheVariants.{NoMemory}
use Rattle.status_rule.specs.declared.status.Status.{Status}
use Rattle.status_rule.specs.declared.status.Status.TheVariants as statuses
use Rattle.status_rule.specs.Written.{Ends, memory_line}
use Rattle.tool_text.specs.Plays.{status_of}

-- nothing more is written, but for the line on want of memory
abbrev pub IsEnded : {D : Type 0} → (D → List ℕ → Type 0) → (D → ℕ) → D → D → SessionAnswer → Status → Type 0
IsEnded stands faults old new NoMemory status = Ends stands faults old new memory_line statuses.NoMemory status
IsEnded stands faults old new answer status = (status ≡ status_of answer) × (new ≡ old)
