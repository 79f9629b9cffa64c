-- What a core is offered is the best of the entries for it, by its own facts.
use Rattle.std.proofs.Common.{◌≡◌, ℕ, ◌<◌, Bool, false, List, length, Option, Some, sym, subst}
use Rattle.uc_topology.specs.declared.tables.GroupFacts.{GroupFacts}
use Rattle.uc_topology.specs.Stated.{Machine, IsPartition, core_at, group_of, group_facts, no_core}
use Rattle.tool_text.specs.entry_model.Entry.{Entry}
use Rattle.tool_text.specs.entry_model.Selection.{IsOffer, IsBest}
use Rattle.tool_text.specs.report_text.Offers.{AreOffers, facts_of_group}
use Rattle.tool_text.specs.session_steps.State.{Setting, State}
use Rattle.tool_text.specs.session_steps.Offers.{offer_of, AreLoadOffers}
use Rattle.session_laws.proofs.Parts.{load_offers}
use Rattle.tool_text.specs.Headline.{core_facts, first_revision}

module _ (machine : Machine) (partition : IsPartition machine.stated) (core : ℕ)
    (below : core < length machine.stated.cores) where
  abbrev group : ℕ
  group = group_of (core_at machine.stated.cores core)

  -- the cores of a group agree
  agree : (core_at machine.stated.cores core).facts ≡ group_facts machine.stated.cores group
  agree = partition.groups.agree core below

  own : (rev : GroupFacts → ℕ) (entries : List Entry) (force : Bool) (number : ℕ) →
      IsBest entries (record {
        vendor = machine.vendor;
        sig = (group_facts machine.stated.cores group).sig;
        flags = (group_facts machine.stated.cores group).flags;
        rev = rev (group_facts machine.stated.cores group);
      }) force number →
      IsBest entries (core_facts machine core (rev (core_at machine.stated.cores core).facts)) force number
  own rev entries force number best =
      subst (λ (facts : GroupFacts). IsBest entries (record {
        vendor = machine.vendor;
        sig = facts.sig;
        flags = facts.flags;
        rev = rev facts;
      }) force number) (sym agree) best

  pub best_at_boot : (entries : List Entry) (offers : List (Option ℕ)) (number : ℕ) → AreOffers machine entries offers →
      offer_of offers group ≡ Some number →
      IsBest entries (core_facts machine core (first_revision machine core)) false number
  best_at_boot entries offers number are is =
      own (λ facts. facts.rev) entries false number
      (subst (IsOffer entries (facts_of_group machine group) false) is
      (are.each group (partition.groups.in_groups core no_core below)))

pub best_at_load : (setting : Setting) (state : State) (force : Bool) (entries : List Entry) (offers : List (Option ℕ)) →
    IsPartition setting.machine.stated → AreLoadOffers setting state force entries offers → (core number : ℕ) →
    core < length setting.machine.stated.cores →
    offer_of offers (group_of (core_at setting.machine.stated.cores core)) ≡ Some number →
    IsBest entries
    (core_facts setting.machine core (state.hardware.rev (group_of (core_at setting.machine.stated.cores core)))) force number
best_at_load setting state force entries offers partition are core number below is =
    own setting.machine partition core below
    (λ facts. state.hardware.rev (group_of (core_at setting.machine.stated.cores core))) entries force number
    (load_offers setting state force entries offers are (group_of (core_at setting.machine.stated.cores core)) number
    is).is_offer
