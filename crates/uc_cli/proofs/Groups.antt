-- The offers of groups, place by place.
use Rattle.std.proofs.Common.{◌≡◌, ℕ, zero, suc, ◌+◌, ◌<◌, List, [], ◌∷◌, length, map, Option, Some, None, refl, subst, arith}
use Rattle.std.specs.Prelude.{Bool, Result, false, slice_index_or, IfSome}
use Rattle.std.specs.List.{range_with_len}
use Rattle.std.proofs.lemmas.Option.{slice_get_within}
use Rattle.uc_topology.specs.Stated.{Machine, group_count}
use Rattle.tool_text.specs.entry_model.declared.facts.CoreFacts.{CoreFacts}
use Rattle.uc_io.specs.Writing.{Writes}
use Rattle.tool_text.specs.entry_model.declared.facts.EntryFacts.{EntryFacts}
use Rattle.tool_text.specs.entry_model.Entry.{Entry}
use Rattle.tool_text.specs.entry_model.Selection.{IsOffer}
use Rattle.tool_text.specs.report_text.Offers.{facts_of_group, AreOffers, offers_text}
use Rattle.uc_select.specs.Offers.{AreOffers as AreOffersAt}
use Rattle.uc_cli.specs.Selecting.{cores_of, PutsOffers}
use Rattle.uc_catalog.specs.Contents.{kept}
use Rattle.uc_catalog.proofs.Kept.{offer_kept, facts_kept}

module _ (entries : List Entry) where
  -- an offer before others
  offers_on : (facts : ℕ → CoreFacts) (first count : ℕ) (offer : Option ℕ) (offers : List (Option ℕ)) → IsOffer entries (facts first) false offer
      → ((k : ℕ) (d : Option ℕ) → k < count → IsOffer entries (facts (first + 1 + k)) false (slice_index_or offers k d))
      → (k : ℕ) (d : Option ℕ) → k < suc count → IsOffer entries (facts (first + k)) false (slice_index_or (offer ∷ offers) k d)
  offers_on facts first count offer offers here behind zero d below =
      let place : first ≡ first + 0 = omega arith in
      subst (λ (n : ℕ). IsOffer entries (facts n) false offer) place here
  offers_on facts first count offer offers here behind (suc k) d below =
      let place : first + 1 + k ≡ first + suc k = omega arith in
      subst (λ (n : ℕ). IsOffer entries (facts n) false (slice_index_or offers k d)) place (behind k d (omega arith))

  -- the offers of cores that are numbered from a number on
  offers_by : (facts : ℕ → CoreFacts) (first count : ℕ) (offers : List (Option ℕ)) → AreOffersAt entries (map (λ group. Some (facts group)) (range_with_len first count)) false offers
      → (length offers ≡ count) × ((k : ℕ) (d : Option ℕ) → k < count → IsOffer entries (facts (first + k)) false (slice_index_or offers k d))
  offers_by facts first zero [] are = (refl, λ k d below. absurd (omega arith))
  offers_by facts first zero (offer ∷ offers) are = absurd are
  offers_by facts first (suc count) [] are = absurd are
  offers_by facts first (suc count) (offer ∷ offers) are =
      let behind = offers_by facts (first + 1) count offers are.1 in
      (omega (arith, behind.0), offers_on facts first count offer offers are.0 behind.1)

  -- an offer is an entry
  pub is_entry : (core : CoreFacts) (offer : Option ℕ) → IsOffer entries core false offer → IfSome offer (λ number. number < length entries)
  is_entry core None is = tt
  is_entry core (Some number) is = slice_get_within entries number is.entry is.there

  module _ (machine : Machine) (offers : List (Option ℕ)) (are : AreOffersAt entries (cores_of machine) false offers) where
    offers_here : (length offers ≡ group_count machine.stated.cores) × ((k : ℕ) (d : Option ℕ) → k < group_count machine.stated.cores → IsOffer entries (facts_of_group machine (0 + k)) false (slice_index_or offers k d))
    offers_here = offers_by (facts_of_group machine) 0 (group_count machine.stated.cores) offers are

    -- one a group
    pub offers_count : length offers ≡ group_count machine.stated.cores
    offers_count = offers_here.0

    pub offers_each : (group : ℕ) (d : Option ℕ) → group < group_count machine.stated.cores → IsOffer entries (facts_of_group machine group) false (slice_index_or offers group d)
    offers_each group d below =
        let place : 0 + group ≡ group = omega arith in
        subst (λ (n : ℕ). IsOffer entries (facts_of_group machine n) false (slice_index_or offers group d)) place (offers_here.1 group d below)

    pub are_offers : AreOffers machine entries offers
    are_offers = record { count = offers_count; each = λ group below. offers_each group None below }

-- what is written for entries as they are kept is written for the entries
pub puts_kept : (keeps : Bool) (machine : Machine) (entries : List Entry) {D E : Type 0} (stands : D → List ℕ → Type 0) (faults : D → ℕ) (old new : D) (result : Result (Unit {0}) E)
    → PutsOffers stands faults old new machine (map (kept keeps) entries) result → PutsOffers stands faults old new machine entries result
puts_kept keeps machine entries stands faults old new result puts = record {
  offers = puts.offers;
  are_offers = record {
    count = puts.are_offers.count;
    each = λ group below. offer_kept keeps entries (facts_of_group machine group) false (slice_index_or puts.offers group None) (puts.are_offers.each group below);
  };
  wrote = subst (λ (facts : ℕ → EntryFacts). Writes stands faults old new (offers_text machine facts puts.offers) result) (λ i n. facts_kept keeps entries n i) puts.wrote;
}
