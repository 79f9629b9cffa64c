-- What the selection for a machine writes.
use Rattle.std.specs.Prelude.{ℕ, List, Option, Some, map, Result}
use Rattle.std.specs.List.{range_with_len}
use Rattle.uc_io.specs.Writing.{Writes}
use Rattle.uc_topology.specs.Stated.{Machine, group_count}
use Rattle.tool_text.specs.entry_model.declared.facts.CoreFacts.{CoreFacts}
use Rattle.tool_text.specs.entry_model.Entry.{Entry}
use Rattle.tool_text.specs.report_text.Offers.{AreOffers, offers_text, facts_of_group}
use Rattle.tool_text.specs.Commands.{facts_at}

-- the facts of the cores of each group
abbrev pub cores_of : Machine → List (Option CoreFacts)
cores_of machine =
    map (λ group. Some (facts_of_group machine group)) (range_with_len 0 (group_count machine.stated.cores))

-- the lines of all cores, with their offers
pub record PutsOffers {D E : Type 0} (stands : D → List ℕ → Type 0) (faults : D → ℕ) (old new : D) (machine : Machine)
    (entries : List Entry) (result : Result (Unit {0}) E) : Type 0 where
  pub offers : List (Option ℕ)
  pub are_offers : AreOffers machine entries offers
  pub wrote : Writes stands faults old new (offers_text machine (facts_at entries) offers) result
