use Rattle.std.proofs.Common.{◌≡◌, ◌-◌}
use Rattle.rendezvous_steps.specs.Plan.{sibling_from}
use Rattle.ctl_words.specs.Plans.{plan_of}
use Rattle.ctl_thread.proofs.searches.first_sibling.Given as goal

-- no thread so far is a sibling
abbrev pub invariant-loop-from : goal.invariant-loop-from
invariant-loop-from l = sibling_from (plan_of l.plan) l.of l.from ≡ sibling_from (plan_of l.plan) l.of l.start

abbrev pub decreases-loop-from : goal.decreases-loop-from
decreases-loop-from l = l.threads - l.from
