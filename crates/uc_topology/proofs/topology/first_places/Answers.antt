use Rattle.std.proofs.Common.{arith}
use Rattle.uc_topology.proofs.Kept.{range_table-push}
use Rattle.uc_topology.proofs.topology.first_places.Goals as goal

pub loop-number-preserved : goal.loop-number-preserved
loop-number-preserved c = record {
  size = omega (arith, c.push.ensures.len, c.loop-number.invariant.size);
  places = range_table-push _ c.loop-number.number c.loop-number.places.items _ _ c.loop-number.invariant.places c.first_place.ensures c.push.ensures.items;
}
