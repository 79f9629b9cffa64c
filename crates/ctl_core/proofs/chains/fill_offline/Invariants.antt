use Rattle.ctl_words.specs.Plans.{plan_of}
use Rattle.ctl_core.proofs.Chaining.{Passed}
use Rattle.ctl_core.proofs.chains.fill_offline.Given as goal

abbrev pub invariant-loop-thread : goal.invariant-loop-thread
invariant-loop-thread l = Passed (plan_of l.plan) l.table.items l.next l.thread

abbrev pub decreases-loop-thread : goal.decreases-loop-thread
decreases-loop-thread l = l.thread
