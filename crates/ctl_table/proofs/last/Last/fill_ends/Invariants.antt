use Rattle.std.proofs.Common.{◌≡◌, ◌≤◌, map}
use Rattle.std.specs.Vec.{vec_capacity}
use Rattle.std.specs.List.{range_with_len}
use Rattle.uc_rendezvous.specs.Ends.{end_in}
use Rattle.ctl_table.specs.Lasts.{plan_at, words_at}
use Rattle.ctl_table.proofs.last.Last.fill_ends.Given as goal

-- those of the threads so far, and room for all
abbrev pub invariant-loop-thread : goal.invariant-loop-thread
invariant-loop-thread l = record {
  so_far : l.ends.entries.items ≡ map (end_in (plan_at l.self) (words_at l.self)) (range_with_len 0 l.thread);
  room : (plan_at l.self).threads ≤ vec_capacity l.ends.entries;
}
