use Rattle.std.proofs.Common.{ℕ, ◌<◌}
use Rattle.ctl_words.specs.Plans.{plan_of, GroupFits}
use Rattle.ctl_words.proofs.plans.Plan.groups_fit.Given as goal

-- the groups so far fit
abbrev pub invariant-loop-group : goal.invariant-loop-group
invariant-loop-group l = (g : ℕ) → g < l.group → GroupFits (plan_of l.self) g
