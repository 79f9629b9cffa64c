use Rattle.std.proofs.Common.{◌≡◌, map}
use Rattle.std.specs.List.{range_with_len}
use Rattle.rendezvous_steps.specs.declared.operations.Word.TheVariants.{Rev}
use Rattle.ctl_core.specs.Moments.{running_of}
use Rattle.ctl_core.proofs.moments.Moment.fill_revisions.Given as goal

-- those of the groups so far
abbrev pub invariant-groups : goal.invariant-groups
invariant-groups l = l.revisions.items ≡ map (λ g. (running_of l.self).words (Rev g)) (range_with_len 0 l.group)
