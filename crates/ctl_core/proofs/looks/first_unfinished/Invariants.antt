use Rattle.std.proofs.Common.{◌≡◌}
use Rattle.ctl_words.specs.Lists.{word_of}
use Rattle.ctl_words.specs.Plans.{plan_of}
use Rattle.ctl_core.specs.Moments.{unfinished_from}
use Rattle.ctl_core.proofs.looks.first_unfinished.Given as goal

-- no thread so far is unfinished
abbrev pub invariant-loop-thread : goal.invariant-loop-thread
invariant-loop-thread l =
    unfinished_from (plan_of l.plan) (word_of l.words) 0 ≡ unfinished_from (plan_of l.plan) (word_of l.words) l.thread
