use Rattle.std.proofs.Common.{ℕ, List, Option, subst, sym, ◌∙◌, arith}
use Rattle.std.specs.Prelude.{false}
use Rattle.tool_text.specs.entry_model.declared.facts.CoreFacts.{CoreFacts}
use Rattle.uc_select.specs.Offers.{AreOffers}
use Rattle.uc_cli.proofs.Groups.{is_entry, offers_count, offers_each, are_offers}
use Rattle.uc_cli.proofs.select.put_selection.Goals as goal

pub put_offers-requires-clause-count : goal.put_offers-requires-clause-count
put_offers-requires-clause-count g c =
    let entries = c.args.catalog.now.entries in
    let all = subst (λ (offers : List (Option ℕ)). AreOffers entries c.as_slice.result.now false offers) (sym c.as_slice-2.ensures.value) c.offers-offers.ensures in
    let of_cores = subst (λ (cores : List (Option CoreFacts)). AreOffers entries cores false c.as_slice-2.result.now) (c.as_slice.ensures.value ∙ c.cores_of-cores.ensures) all in
    offers_count entries c.args.topology.now c.as_slice-2.result.now of_cores

pub put_offers-requires-clause-within : goal.put_offers-requires-clause-within
put_offers-requires-clause-within g c = λ k d inside.
    let entries = c.args.catalog.now.entries in
    let all = subst (λ (offers : List (Option ℕ)). AreOffers entries c.as_slice.result.now false offers) (sym c.as_slice-2.ensures.value) c.offers-offers.ensures in
    let of_cores = subst (λ (cores : List (Option CoreFacts)). AreOffers entries cores false c.as_slice-2.result.now) (c.as_slice.ensures.value ∙ c.cores_of-cores.ensures) all in
    let count = offers_count entries c.args.topology.now c.as_slice-2.result.now of_cores in
    is_entry entries _ _ (offers_each entries c.args.topology.now c.as_slice-2.result.now of_cores k d (omega (arith, inside, count)))

pub returns : goal.returns
returns g c =
    let entries = c.args.catalog.now.entries in
    let all = subst (λ (offers : List (Option ℕ)). AreOffers entries c.as_slice.result.now false offers) (sym c.as_slice-2.ensures.value) c.offers-offers.ensures in
    let of_cores = subst (λ (cores : List (Option CoreFacts)). AreOffers entries cores false c.as_slice-2.result.now) (c.as_slice.ensures.value ∙ c.cores_of-cores.ensures) all in
    record { offers = c.as_slice-2.result.now; are_offers = are_offers entries c.args.topology.now c.as_slice-2.result.now of_cores; wrote = c.put_offers.ensures }
