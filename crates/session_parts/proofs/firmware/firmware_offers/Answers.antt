use Rattle.std.proofs.Common.{ℕ, List, Option, Some, None, subst, ◌∙◌}
use Rattle.std.specs.Prelude.{false}
use Rattle.uc_topology.specs.Stated.{group_count}
use Rattle.entry_model.specs.declared.facts.CoreFacts.{CoreFacts}
use Rattle.report_text.specs.Offers.{facts_of_group}
use Rattle.uc_select.specs.Offers.{AreOffers}
use Rattle.uc_select.proofs.Best.{offers_count, offers_each, offers_within}
use Rattle.session_parts.proofs.firmware.firmware_offers.Goals as goal

pub returns : goal.returns
returns c =
    let machine = c.args.topology.now in
    let entries = c.args.catalog.now.entries in
    let core : ℕ → Option CoreFacts = λ group. Some (facts_of_group machine group) in
    let count : ℕ = group_count machine.stated.cores in
    let are = subst (λ (cores : List (Option CoreFacts)). AreOffers entries cores false c.offers.result.items)
    (c.as_slice.ensures.value ∙ c.firmware_cores-cores.ensures) c.offers.ensures in
    record {
      offers = record {
        count = offers_count entries core count false c.offers.result.items are;
        each = λ group below. offers_each entries core count false c.offers.result.items are group None below;
      };
      within = offers_within entries core count false c.offers.result.items are;
    }
