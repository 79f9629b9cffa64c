use Rattle.std.proofs.Common.{arith, sym}
use Rattle.std.proofs.lemmas.List.FromFn.{map-range_with_len_more}
use Rattle.hw_machine.proofs.tables.firmware_revisions.Goals as goal

pub loop-group-preserved : goal.loop-group-preserved
loop-group-preserved c = record {
  size = omega (arith, c.push.ensures.len, c.loop-group.invariant.size);
  items = rw (c.push.ensures.items, c.loop-group.invariant.items, c.facts.ensures) (sym (map-range_with_len_more _ 0 c.loop-group.group c.loop-group.group (omega arith)));
}
