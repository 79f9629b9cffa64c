use Rattle.std.proofs.Common.{◌≡◌}
use Rattle.rendezvous_steps.specs.Plan.{sibling_from}
use Rattle.ctl_words.specs.Plans.{plan_of}
use Rattle.ctl_thread.proofs.searches.sibling_among.Given as goal

-- no thread so far is a sibling
abbrev pub invariant-loop-thread : goal.invariant-loop-thread
invariant-loop-thread l = sibling_from (plan_of l.plan) l.of l.thread ≡ sibling_from (plan_of l.plan) l.of l.from
