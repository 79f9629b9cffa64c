use Rattle.std.proofs.Common.{◌≡◌, ◌≤◌, map}
use Rattle.std.specs.Vec.{vec_capacity}
use Rattle.std.specs.List.{range_with_len}
use Rattle.rendezvous_steps.specs.declared.operations.Word.TheVariants.{Rev}
use Rattle.ctl_table.specs.Lasts.{plan_at, words_at}
use Rattle.ctl_table.proofs.last.Last.fill_revisions.Given as goal

-- those of the groups so far, and room for all
abbrev pub invariant-loop-group : goal.invariant-loop-group
invariant-loop-group l = record {
  so_far : l.revisions.entries.items ≡ map (λ g. words_at l.self (Rev g)) (range_with_len 0 l.group);
  room : (plan_at l.self).groups ≤ vec_capacity l.revisions.entries;
}
