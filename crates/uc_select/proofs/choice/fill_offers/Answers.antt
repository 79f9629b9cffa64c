use Rattle.std.proofs.Common.{◌≡◌, ℕ, ◌+◌, ◌<◌, List, [], ◌∷◌, ◌++◌, length, get_or, take, Option, None, sym, subst, arith}
use Rattle.std.proofs.lemmas.List.{take_more}
use Rattle.entry_model.specs.declared.facts.CoreFacts.{CoreFacts}
use Rattle.uc_select.specs.Offers.{AreOffers}
use Rattle.uc_select.proofs.Best.{offers_push}
use Rattle.uc_select.proofs.choice.fill_offers.Goals as goal

pub cores-preserved : goal.cores-preserved
cores-preserved c =
    let entries = c.args.catalog.now.entries in
    let cores = c.args.cores.now in
    let at = c.cores.place in
    let within : at < length cores = omega arith in
    let more : take (at + 1) cores ≡ take at cores ++ get_or cores at None ∷ [] = take_more cores at None within in
    record {
      so_far =
          subst (λ (l : List (Option CoreFacts)). AreOffers entries l c.args.force c.push.new.self.items) (sym more)
          (subst (λ (l : List (Option ℕ)). AreOffers entries (take at cores ++ get_or cores at None ∷ []) c.args.force l) (sym c.push.ensures.items)
          (offers_push entries (take at cores) c.args.force c.cores.offers.items (get_or cores at None) c.offer_in_turn-offer.result c.cores.invariant.so_far c.offer_in_turn-offer.ensures));
      counts = omega (arith, c.push.ensures.len, c.cores.invariant.counts);
    }
