use Rattle.std.proofs.Common.{◌≡◌, ◌*◌, ◌++◌}
use Rattle.uc_gen.specs.Draws.{state_after}
use Rattle.uc_gen.specs.Texts.{core_lines}
use Rattle.uc_gen.proofs.texts.push_cores.Given as goal

abbrev pub invariant-cores : goal.invariant-cores
invariant-cores l = record {
  state : l.draws.state ≡ state_after l.number (2 * l.core);
  lines : l.bytes.items ≡ l.initial.bytes.items ++ core_lines l.number l.core;
}
