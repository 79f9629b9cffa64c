use Rattle.std.proofs.Common.{ℕ, ◌<◌, ◌^◌}
use Rattle.rendezvous_steps.specs.StepTable.{write_of}
use Rattle.ctl_words.specs.Plans.{plan_of}
use Rattle.ctl_core.proofs.looks.revisions_are_small.Given as goal

-- those of the groups so far
abbrev pub invariant-loop-group : goal.invariant-loop-group
invariant-loop-group l = record {
  first : (g : ℕ) → g < l.group → (plan_of l.plan).rev0 g < 2 ^ 32;
  writes : (g : ℕ) → g < l.group → write_of (plan_of l.plan) g < 2 ^ 32;
}
