use Rattle.std.proofs.Common.{◌≡◌, map}
use Rattle.std.specs.List.{range_with_len}
use Rattle.ctl_words.specs.Plans.{plan_of}
use Rattle.ctl_words.specs.Lists.{word_of}
use Rattle.uc_rendezvous.specs.Ends.{end_in}
use Rattle.ctl_core.proofs.moments.Moment.fill_ends.Given as goal

-- those of the threads so far
abbrev pub invariant-threads : goal.invariant-threads
invariant-threads l =
    l.ends.items ≡ map (end_in (plan_of l.plan) (word_of l.self-inside.words)) (range_with_len 0 l.thread)
