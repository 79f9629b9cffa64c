use Rattle.std.proofs.Common.{◌≡◌}
use Rattle.rendezvous_steps.specs.Plan.{offline_from}
use Rattle.ctl_words.specs.Plans.{plan_of}
use Rattle.ctl_thread.proofs.searches.first_offline.Given as goal

-- no thread so far is Offline
abbrev pub invariant-loop-thread : goal.invariant-loop-thread
invariant-loop-thread l = offline_from (plan_of l.plan) l.thread ≡ offline_from (plan_of l.plan) l.start
