use Rattle.std.proofs.Common.{◌≡◌, ◌≤◌, length, map}
use Rattle.std.specs.List.{range_with_len}
use Rattle.session_parts.specs.Parts.{state_of}
use Rattle.session_parts.specs.Plans.{revision_put}
use Rattle.session_parts.proofs.parts.Parts.offered_revisions.Given as goal

abbrev pub invariant-groups : goal.invariant-groups
invariant-groups l = record {
  within : l.g ≤ length l.places;
  so_far : l.revisions.items ≡ map (revision_put (state_of l.self).patches l.places) (range_with_len 0 l.g);
}
