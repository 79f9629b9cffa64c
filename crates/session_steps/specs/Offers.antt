-- What a load offers, and the plan that its rendezvous sets out with.
use Rattle.std.specs.Prelude.{◌≡◌, ℕ, ◌<◌, nat_lt, Bool, true, false, if◌then◌else◌, List, [], length, Option, Some}
use Rattle.std.specs.Prelude.{None, option_map, flat_map, slice_index_or}
use Rattle.std.specs.List.{range_with_len}
use Rattle.uc_topology.specs.Stated.{core_at, group_of, group_count, group_facts, primary}
use Rattle.entry_model.specs.declared.facts.CoreFacts.{CoreFacts}
use Rattle.entry_model.specs.Entry.{Entry, patch_entry}
use Rattle.entry_model.specs.Selection.{IsOffer}
use Rattle.rendezvous_steps.specs.declared.steps.Kind.{Kind}
use Rattle.rendezvous_steps.specs.declared.steps.Kind.TheVariants as kind
use Rattle.rendezvous_steps.specs.Plan.{Plan}
use Rattle.machine_steps.specs.declared.states.ThreadState.{ThreadState}
use Rattle.machine_steps.specs.declared.states.ThreadState.TheVariants.{Cold, Up, Offline}
use Rattle.machine_steps.specs.BringUps.{revision}
use Rattle.machine_steps.specs.Puts.{Puts, first_of, patch_at}
use Rattle.session_text.specs.Lines.{load_offer_line}
use Rattle.session_steps.specs.State.{Setting, State, machine_of, takes_part}

-- an entry by its number: of no meaning past the last
abbrev pub entry_at : List Entry → ℕ → Entry
entry_at entries number = slice_index_or entries number (patch_entry 0 0 [] [])

abbrev pub bytes_at : List Entry → ℕ → List ℕ
bytes_at entries number = (entry_at entries number).bytes

-- the entry that a group is offered, of the offers of all groups
abbrev pub offer_of : List (Option ℕ) → ℕ → Option ℕ
offer_of offers g = slice_index_or offers g None

-- the facts of the cores of a group, at its present revision
abbrev pub facts_now : Setting → State → ℕ → CoreFacts
facts_now setting state g = record {
  vendor = setting.machine.vendor;
  sig = (group_facts setting.machine.stated.cores g).sig;
  flags = (group_facts setting.machine.stated.cores g).flags;
  rev = state.hardware.rev g;
}

abbrev pub IsOfferWhere : Bool → List Entry → CoreFacts → Bool → Option ℕ → Type 0
IsOfferWhere true entries core force offer = IsOffer entries core force offer
IsOfferWhere false entries core force offer = offer ≡ None

-- each group that takes part has its offer at its present revision, and no other group has one
pub record AreLoadOffers (setting : Setting) (state : State) (force : Bool) (entries : List Entry)
    (offers : List (Option ℕ)) : Type 0 where
  pub count : length offers ≡ group_count setting.machine.stated.cores
  pub each :
      (g : ℕ) → g < group_count setting.machine.stated.cores →
      IsOfferWhere (takes_part setting state g) entries (facts_now setting state g) force (offer_of offers g)

-- no group is offered anything
abbrev pub NothingOffered : List (Option ℕ) → Type 0
NothingOffered offers = (g : ℕ) → g < length offers → offer_of offers g ≡ None

-- some group is
pub record SomethingOffered (offers : List (Option ℕ)) : Type 0 where
  pub group : ℕ
  pub entry : ℕ
  pub is_offered : offer_of offers group ≡ Some entry

-- The lines of the offers: one for each core of a group with an offer, also where no thread of the core takes part.

abbrev pub offered_text : List Entry → ℕ → ℕ → Option ℕ → List ℕ
offered_text entries core rev None = []
offered_text entries core rev (Some number) = load_offer_line core rev number (entry_at entries number).facts

abbrev pub group_of_core : Setting → ℕ → ℕ
group_of_core setting core = group_of (core_at setting.machine.stated.cores core)

unfoldable pub load_offers_text : Setting → State → List Entry → List (Option ℕ) → List ℕ
load_offers_text setting state entries offers =
    flat_map
    (λ core. offered_text entries core (state.hardware.rev (group_of_core setting core))
    (offer_of offers (group_of_core setting core)))
    (range_with_len 0 (length setting.machine.stated.cores))

-- The plan. Past the ends of its tables no thread takes part, and no group has an offer.

-- a table with so many places, and a value behind them
abbrev pub table : {A : Type 0} → ℕ → (ℕ → A) → A → ℕ → A
table places each behind = λ k. if nat_lt k places then each k else behind

abbrev pub kind_of : ThreadState → Kind
kind_of Up = kind.Online
kind_of Offline = kind.Offline
kind_of Cold = kind.Absent

-- the revision of the patch that was put for a group's offer, as the region lends it
abbrev pub put_revision : Puts → Option ℕ → Option ℕ
put_revision puts offer = option_map revision (patch_at puts.patches (first_of puts offer))

unfoldable pub plan_of : Setting → State → Puts → List (Option ℕ) → Plan
plan_of setting state puts offers =
    let threads = (machine_of setting).threads in
    let groups = (machine_of setting).groups in
    record {
      threads = threads;
      groups = groups;
      kind = table threads (λ t. kind_of (state.hardware.thread t)) kind.Absent;
      group = table threads (machine_of setting).group groups;
      primary = table groups (primary setting.machine.stated) threads;
      offer = table groups (λ g. put_revision puts (offer_of offers g)) None;
      refuse = table groups state.hardware.refuses false;
      rev0 = table groups state.hardware.rev 0;
      patience = setting.patience;
    }
