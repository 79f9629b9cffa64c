use Rattle.ctl_words.specs.Plans.{plan_of}
use Rattle.ctl_core.specs.Chains.{Linking}
use Rattle.ctl_core.proofs.chains.fill_members.Given as goal

abbrev pub invariant-loop-thread : goal.invariant-loop-thread
invariant-loop-thread l = Linking (plan_of l.plan) l.table.items l.lowest.items l.thread

abbrev pub decreases-loop-thread : goal.decreases-loop-thread
decreases-loop-thread l = l.thread
