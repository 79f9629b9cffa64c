use Rattle.std.proofs.Common.{Option, sym, subst}
use Rattle.uc_catalog.specs.declared.coming.Coming.{Coming}
use Rattle.uc_catalog.specs.Coming.{ComesBy}
use Rattle.uc_catalog.specs.Contents.{Contents}
use Rattle.uc_catalog.proofs.Comings.{some_came, some_fed, fed_on}
use Rattle.uc_catalog.proofs.catalog.Catalog.feed.Goals as goal

pub invariant_of-self : goal.invariant_of-self
invariant_of-self c =
    let keeps = c.self.inside.keeps in
    let came = some_came keeps c.self.inside.coming c.self.invariant.1 in
    let before = c.begin.ensures.comes keeps came.0 came.1 in
    let fed = c.feed.ensures.come came.0 (subst (λ (o : Option Coming). ComesBy keeps came.0 o) c.in-Some.is before) in
    (c.self.invariant.0, some_fed c.feed.result keeps came.0 c.args.piece.now c.feed.new.self fed)

pub returns-clause-come : goal.returns-clause-come
returns-clause-come c = λ bytes comes.
    let keeps = c.self.inside.keeps in
    let files = c.self.inside.files.items in
    let piece = c.args.piece.now in
    let before = c.begin.ensures.comes keeps bytes (subst (λ (v : Contents). ComesBy v.keeps bytes v.coming) (sym c.self.view_is) comes) in
    let fed = c.feed.ensures.come bytes (subst (λ (o : Option Coming). ComesBy keeps bytes o) c.in-Some.is before) in
    fed_on c.feed.result keeps files bytes piece c.feed.new.self fed
