use Rattle.std.proofs.Common.{ℕ, List, Option, None, subst, ◌∙◌}
use Rattle.uc_topology.specs.Stated.{group_count}
use Rattle.entry_model.specs.declared.facts.CoreFacts.{CoreFacts}
use Rattle.uc_select.specs.Offers.{AreOffers}
use Rattle.uc_select.proofs.Best.{offers_count, offers_each, offers_within}
use Rattle.session_steps.specs.State.{takes_part}
use Rattle.session_steps.specs.Offers.{facts_now}
use Rattle.session_parts.specs.Parts.{setting_of, state_of}
use Rattle.session_parts.specs.Loads.{core_where}
use Rattle.session_parts.proofs.Entries.{is_offer_where, are_entries}
use Rattle.session_parts.proofs.parts.Parts.load_offers.Goals as goal

pub returns : goal.returns
returns c =
    let setting = setting_of c.args.self.now in
    let state = state_of c.args.self.now in
    let entries = c.args.catalog.now.entries in
    let force = c.args.force in
    let core : ℕ → Option CoreFacts = λ g. core_where (takes_part setting state g) (facts_now setting state g) in
    let count : ℕ = group_count setting.machine.stated.cores in
    let are = subst (λ (cores : List (Option CoreFacts)). AreOffers entries cores force c.fill_offers.new.offers.items)
    (c.as_slice.ensures.value ∙ c.present_cores.ensures) c.fill_offers.ensures in
    let within = offers_within entries core count force c.fill_offers.new.offers.items are in
    record {
      offers = record {
        count = offers_count entries core count force c.fill_offers.new.offers.items are;
        each = λ g below. is_offer_where (takes_part setting state g) entries (facts_now setting state g) force _
            (offers_each entries core count force c.fill_offers.new.offers.items are g None below);
      };
      known = are_entries c.args.catalog.now c.fill_offers.new.offers.items within;
      within = within;
    }
