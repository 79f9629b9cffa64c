use Rattle.std.proofs.Common.{◌≡◌, true, rules, arith}
use Rattle.std.proofs.lemmas.Grind.{common_steps}
use Rattle.uc_topology.specs.Stated.{group_facts}
use Rattle.uc_topology.specs.Grammar.{same_facts}
use Rattle.uc_topology.proofs.Kept.{AreTables-new_group, AreTables-old_group}
use Rattle.uc_topology.proofs.tables.Tables.add_core.Goals as goal

pub invariant_of-self : goal.invariant_of-self
invariant_of-self c =
    rw (c.push-then-place-groups-2.ensures.items, c.push.ensures.items) (AreTables-new_group _ _ _ _ _ _ c.self.invariant (omega arith) (omega arith) (omega arith))

pub invariant_of-self-2 : goal.invariant_of-self-2
invariant_of-self-2 c =
    let first = c.self.invariant.first c.args.group (omega arith) in
    let agrees : same_facts c.args.facts (group_facts c.self.inside.cores.items c.args.group) ≡ true = first_of (search rules, grind (arith, common_steps)) in
    rw c.push-2.ensures.items (AreTables-old_group _ _ _ _ _ c.self.invariant (omega arith) (omega arith) agrees)
