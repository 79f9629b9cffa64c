use Rattle.std.proofs.Common.{◌≡◌, List, map, slice_set, refl, ap, ◌∙◌}
use Rattle.std.proofs.lemmas.List.{map-set}
use Rattle.rendezvous_steps.specs.declared.steps.Local.{Local}
use Rattle.ctl_core.specs.Stands.{local_of}
use Rattle.ctl_core.specs.Moments.{State}
use Rattle.ctl_core.proofs.moments.Moment.set_local.Goals as goal

pub returns : goal.returns
returns c =
    let inside = c.self.inside in
    let moved : map local_of (slice_set inside.locals.items c.from.result c.of.result) ≡ slice_set (map local_of inside.locals.items) c.args.thread c.args.local =
    map-set local_of inside.locals.items c.from.result c.of.result ∙ (rw (c.from.ensures, c.of.ensures) refl) in
    ap {B = State} (λ (locals : List Local). record { words = inside.words; locals = locals; latched = inside.latched.items; unfinished = inside.unfinished; chains = inside.chains }) moved
    ∙ ap (λ (s : State). record s { locals = slice_set s.locals c.args.thread c.args.local }) c.self.view_is
