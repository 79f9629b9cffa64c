use Rattle.std.proofs.Common.{◌≡◌}
use Rattle.ctl_words.specs.Plans.{plan_of}
use Rattle.ctl_core.specs.Moments.{running_of, ready_from}
use Rattle.ctl_core.proofs.moments.Moment.first_ready.Given as goal

-- no thread so far is ready
abbrev pub invariant-loop-thread : goal.invariant-loop-thread
invariant-loop-thread l =
    ready_from (plan_of l.plan) (running_of l.self) 0 ≡ ready_from (plan_of l.plan) (running_of l.self) l.thread
