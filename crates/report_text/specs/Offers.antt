-- What each core of a machine is offered.
use Rattle.std.specs.Prelude.{◌≡◌, ℕ, ◌<◌, false, List, length, Option, Some, None, flat_map, slice_index_or}
use Rattle.std.specs.List.{range_with_len}
use Rattle.uc_topology.specs.Stated.{Machine, core_at, group_of, group_count, group_facts}
use Rattle.entry_model.specs.declared.facts.EntryFacts.{EntryFacts}
use Rattle.entry_model.specs.declared.facts.CoreFacts.{CoreFacts}
use Rattle.entry_model.specs.Entry.{Entry}
use Rattle.entry_model.specs.Selection.{IsOffer}
use Rattle.report_text.specs.Lines.{offer_line, no_offer_line}

-- the facts of the cores of a group
abbrev pub facts_of_group : Machine → ℕ → CoreFacts
facts_of_group machine group = record {
  vendor = machine.vendor;
  sig = (group_facts machine.stated.cores group).sig;
  flags = (group_facts machine.stated.cores group).flags;
  rev = (group_facts machine.stated.cores group).rev;
}

-- each group has its offer, without force
pub record AreOffers (machine : Machine) (entries : List Entry) (offers : List (Option ℕ)) : Type 0 where
  pub count : length offers ≡ group_count machine.stated.cores
  pub each : (group : ℕ) → group < group_count machine.stated.cores → IsOffer entries (facts_of_group machine group) false (slice_index_or offers group None)

-- the line of a core at a revision, with an entry or without
abbrev pub line_of_offer : (ℕ → EntryFacts) → ℕ → ℕ → Option ℕ → List ℕ
line_of_offer facts core rev (Some number) = offer_line core rev number (facts number)
line_of_offer facts core rev None = no_offer_line core rev

-- the lines of all cores, each with the offer of its group
abbrev pub offers_text : Machine → (ℕ → EntryFacts) → List (Option ℕ) → List ℕ
offers_text machine facts offers =
    flat_map
    (λ core.
    line_of_offer facts core (facts_of_group machine (group_of (core_at machine.stated.cores core))).rev (slice_index_or offers (group_of (core_at machine.stated.cores core)) None))
    (range_with_len 0 (length machine.stated.cores))
