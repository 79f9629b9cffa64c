use Rattle.std.proofs.Common.{◌≡◌, ℕ, ◌<◌, false}
use Rattle.ctl_words.specs.Plans.{plan_of}
use Rattle.session_report.proofs.LoadTexts.{is_part}
use Rattle.session_report.proofs.loads.takes_part.Given as goal

-- no thread of the core so far takes part
abbrev pub invariant-threads : goal.invariant-threads
invariant-threads l =
    (t : ℕ) → t < l.t → is_part l.topology (plan_of l.plan) l.core t ≡ false
