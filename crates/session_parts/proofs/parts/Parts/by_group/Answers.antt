use Rattle.std.proofs.Common.{arith}
use Rattle.uc_topology.specs.Stated.{primary}
use Rattle.session_parts.specs.Parts.{setting_of, state_of}
use Rattle.session_parts.proofs.Tables.{map_length, map_more}
use Rattle.session_parts.proofs.parts.Parts.by_group.Goals as goal

pub push-requires : goal.push-requires
push-requires c =
    let count = map_length (primary (setting_of c.args.self.now).machine.stated) c.groups.g c.groups.primary.items
    c.groups.invariant.so_far.primaries_are in
    (omega arith, omega (arith, count, c.groups-test.true, c.groups-g-end.ensures.value, c.groups-g-end.ensures.few))

pub push-requires-in-groups : goal.push-requires-in-groups
push-requires-in-groups c =
    let count = map_length (state_of c.args.self.now).hardware.refuses c.groups.g c.groups.refuse.items
    c.groups.invariant.so_far.refusals_are in
    (omega arith, omega (arith, count, c.groups-test.true, c.groups-g-end.ensures.value, c.groups-g-end.ensures.few))

pub push-requires-in-groups-2 : goal.push-requires-in-groups-2
push-requires-in-groups-2 c =
    let count = map_length (state_of c.args.self.now).hardware.rev c.groups.g c.groups.rev0.items
    c.groups.invariant.so_far.revisions_are in
    (omega arith, omega (arith, count, c.groups-test.true, c.groups-g-end.ensures.value, c.groups-g-end.ensures.few))

pub groups-preserved : goal.groups-preserved
groups-preserved c = record {
  within = omega (arith, c.groups-test.true, c.groups-g-end.ensures.value);
  so_far = record {
    primaries_are = map_more (primary (setting_of c.args.self.now).machine.stated) c.groups.g c.groups.primary.items
        c.push.new.self.items c.primary_of.result c.groups.invariant.so_far.primaries_are c.push.ensures.items
        c.primary_of.ensures;
    refusals_are = map_more (state_of c.args.self.now).hardware.refuses c.groups.g c.groups.refuse.items
        c.push-in-groups.new.self.items c.refuses.result c.groups.invariant.so_far.refusals_are
        c.push-in-groups.ensures.items c.refuses.ensures;
    revisions_are = map_more (state_of c.args.self.now).hardware.rev c.groups.g c.groups.rev0.items
        c.push-in-groups-2.new.self.items c.rev.result c.groups.invariant.so_far.revisions_are
        c.push-in-groups-2.ensures.items c.rev.ensures;
  };
}
