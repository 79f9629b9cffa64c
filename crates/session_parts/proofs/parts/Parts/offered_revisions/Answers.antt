use Rattle.std.proofs.Common.{arith}
use Rattle.session_parts.specs.Parts.{state_of}
use Rattle.session_parts.specs.Plans.{revision_put}
use Rattle.session_parts.proofs.Tables.{map_length, map_more}
use Rattle.session_parts.proofs.parts.Parts.offered_revisions.Goals as goal

pub push-requires : goal.push-requires
push-requires c =
    let count = map_length (revision_put (state_of c.args.self.now).patches c.args.places.now) c.groups.g
    c.groups.revisions.items c.groups.invariant.so_far in
    (omega arith, omega (arith, count, c.groups-test.true, c.requires.few))

pub groups-preserved : goal.groups-preserved
groups-preserved c = record {
  within = omega (arith, c.groups-test.true);
  so_far = map_more (revision_put (state_of c.args.self.now).patches c.args.places.now) c.groups.g
      c.groups.revisions.items c.push.new.self.items c.revision_at.result c.groups.invariant.so_far
      c.push.ensures.items c.revision_at.ensures;
}
