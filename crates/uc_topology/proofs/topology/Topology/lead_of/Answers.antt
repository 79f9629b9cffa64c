use Rattle.std.proofs.Common.{◌<◌, length, get_or, sym, subst, ap, ◌∙◌, arith}
use Rattle.uc_topology.specs.Stated.{Stated, Machine, lead}
use Rattle.uc_topology.proofs.Kept.{at_range, length_range}
use Rattle.uc_topology.proofs.topology.Topology.lead_of.Goals as goal

pub bounds-deref-core : goal.bounds-deref-core
bounds-deref-core c =
    let stated = ap (λ (m : Machine). m.stated) c.self.view_is in
    let below : c.args.core < length c.self.inside.tables.cores = subst (λ (s : Stated). c.args.core < length s.cores) (sym stated) c.requires in
    omega (arith, ap length c.deref.ensures.0, ap length c.self.invariant.0, length_range (lead c.self.inside.tables) (length c.self.inside.tables.cores), below)

pub returns : goal.returns
returns c =
    let stated = ap (λ (m : Machine). m.stated) c.self.view_is in
    let below : c.args.core < length c.self.inside.tables.cores = subst (λ (s : Stated). c.args.core < length s.cores) (sym stated) c.requires in
    ap (λ places. get_or places c.args.core 0) (c.deref.ensures.0 ∙ c.self.invariant.0) ∙ at_range (lead c.self.inside.tables) (length c.self.inside.tables.cores) c.args.core below ∙ ap (λ (s : Stated). lead s c.args.core) stated
