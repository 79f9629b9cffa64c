use Rattle.std.proofs.Common.{◌≡◌, ◌++◌}
use Rattle.uc_gen.specs.Draws.{state_after}
use Rattle.uc_gen.specs.Texts.{offline_lines}
use Rattle.uc_gen.proofs.texts.push_offlines.Given as goal

abbrev pub invariant-places : goal.invariant-places
invariant-places l = record {
  state : l.draws.state ≡ state_after l.number l.place;
  lines : l.bytes.items ≡ l.initial.bytes.items ++ offline_lines l.number l.place;
}
