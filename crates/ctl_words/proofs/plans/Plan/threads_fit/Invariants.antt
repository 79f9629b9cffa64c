use Rattle.std.proofs.Common.{ℕ, ◌<◌}
use Rattle.ctl_words.specs.Plans.{plan_of, ThreadFits}
use Rattle.ctl_words.proofs.plans.Plan.threads_fit.Given as goal

-- the threads so far fit
abbrev pub invariant-loop-thread : goal.invariant-loop-thread
invariant-loop-thread l = (t : ℕ) → t < l.thread → ThreadFits (plan_of l.self) t
