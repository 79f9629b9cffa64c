use Rattle.std.proofs.Common.{◌≡◌, ◌<◌, length, get_or, take, Option, None, ◌∙◌, subst, arith, length-take-le}
use Rattle.std.proofs.lemmas.List.{get_or-take}
use Rattle.entry_model.specs.declared.facts.CoreFacts.{CoreFacts}
use Rattle.uc_select.specs.Offers.{IsOfferAt}
use Rattle.uc_select.proofs.Best.{offers_length, offers_at}
use Rattle.uc_select.proofs.choice.offer_in_turn.Goals as goal

pub bounds-offers-first : goal.bounds-offers-first
bounds-offers-first c =
    let count = offers_length _ _ _ _ c.requires.before in
    omega (arith, count, length-take-le c.args.place c.args.cores.now (omega (arith, c.requires.place)), c.if-first-place.true)

pub returns-then-first-place : goal.returns-then-first-place
returns-then-first-place c =
    let entries = c.args.catalog.now.entries in
    let cores = c.args.cores.now in
    let first = c.first_equal-first.result in
    let before : first < length (take c.args.place cores) =
    omega (arith, length-take-le c.args.place cores (omega (arith, c.requires.place)), c.if-first-place.true) in
    let same : get_or (take c.args.place cores) first None ≡ get_or cores c.args.place None =
    get_or-take c.args.place cores first None c.if-first-place.true ∙ c.first_equal-first.ensures.equal in
    subst (λ (core : Option CoreFacts). IsOfferAt entries core c.args.force (get_or c.args.offers.now first None)) same
    (offers_at entries (take c.args.place cores) c.args.force c.args.offers.now first None c.requires.before before)
