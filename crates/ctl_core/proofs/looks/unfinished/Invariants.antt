use Rattle.std.proofs.Common.{◌≡◌, ◌≤◌, not, count_by}
use Rattle.std.specs.List.{range_with_len}
use Rattle.rendezvous_steps.specs.Events.{shows_finished}
use Rattle.ctl_words.specs.Lists.{word_of}
use Rattle.ctl_words.specs.Plans.{plan_of}
use Rattle.ctl_core.proofs.looks.unfinished.Given as goal

-- the unfinished threads so far
abbrev pub invariant-loop-thread : goal.invariant-loop-thread
invariant-loop-thread l = record {
  so_far : l.count ≡ count_by (λ t. not (shows_finished (plan_of l.plan) (word_of l.words) t)) (range_with_len 0 l.thread);
  few : l.count ≤ l.thread;
}
