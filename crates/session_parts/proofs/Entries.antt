-- The offers of a boot and of a load.
use Rattle.std.proofs.Common.{ℕ, ◌<◌, Bool, true, false, List, length, get_or, Option, Some, None}
use Rattle.std.specs.Prelude.{All, IfSome}
use Rattle.entry_model.specs.declared.facts.CoreFacts.{CoreFacts}
use Rattle.entry_model.specs.Entry.{Entry}
use Rattle.uc_catalog.specs.Contents.{Contents}
use Rattle.uc_select.specs.Offers.{IsOfferAt}
use Rattle.session_steps.specs.Offers.{IsOfferWhere}
use Rattle.early_load.specs.Puts.{IsEntry, AreEntries}
use Rattle.session_parts.specs.Loads.{core_where}

pub is_offer_where : (part : Bool) (entries : List Entry) (core : CoreFacts) (force : Bool) (offer : Option ℕ) →
    IsOfferAt entries (core_where part core) force offer → IsOfferWhere part entries core force offer
is_offer_where true entries core force offer is = is
is_offer_where false entries core force offer is = is

is_entry : (entries : ℕ) (offer : Option ℕ) → IfSome offer (λ number. number < entries) → IsEntry entries offer
is_entry entries None is = tt
is_entry entries (Some number) is = is

-- each offer is an entry of the catalogue
pub are_entries : (contents : Contents) (offers : List (Option ℕ)) →
    All (λ offer. IfSome offer (λ number. number < length contents.entries)) offers → AreEntries contents offers
are_entries contents offers within g below =
    is_entry (length contents.entries) (get_or offers g None) (within g None below)
