use Rattle.std.proofs.Common.{◌<◌, length, get_or, sym, subst, ap, ◌∙◌, arith}
use Rattle.uc_topology.specs.Stated.{Stated, Machine, primary, group_count}
use Rattle.uc_topology.proofs.Kept.{at_range, length_range}
use Rattle.uc_topology.proofs.topology.Topology.primary_of.Goals as goal

pub bounds-deref-group : goal.bounds-deref-group
bounds-deref-group c =
    let stated = ap (λ (m : Machine). m.stated) c.self.view_is in
    let below : c.args.group < group_count c.self.inside.tables.cores = subst (λ (s : Stated). c.args.group < group_count s.cores) (sym stated) c.requires in
    omega (arith, ap length c.deref.ensures.0, ap length c.self.invariant.1, length_range (primary c.self.inside.tables) (group_count c.self.inside.tables.cores), below)

pub returns : goal.returns
returns c =
    let stated = ap (λ (m : Machine). m.stated) c.self.view_is in
    let below : c.args.group < group_count c.self.inside.tables.cores = subst (λ (s : Stated). c.args.group < group_count s.cores) (sym stated) c.requires in
    ap (λ places. get_or places c.args.group 0) (c.deref.ensures.0 ∙ c.self.invariant.1) ∙ at_range (primary c.self.inside.tables) (group_count c.self.inside.tables.cores) c.args.group below ∙ ap (λ (s : Stated). primary s c.args.group) stated
