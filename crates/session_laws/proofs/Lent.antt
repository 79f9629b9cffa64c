-- Where all offers were put into the region, each entry that a group is offered has a patch there, with the entry's bytes.
use Rattle.std.proofs.Common.{◌≡◌, ℕ, zero, suc, ◌≤◌, List, [], ◌∷◌, length, get_or, Option, Some, None, Result, Ok, Err, refl, sym, ap, ◌∙◌, subst, inl, inr}
use Rattle.std.proofs.lemmas.Bool.{cases_eq, eq-eqb, ne_eqb}
use Rattle.region_steps.specs.Region.{Patches, lowest_run, blocks_of}
use Rattle.machine_steps.specs.Puts.{Puts, no_puts, put_in_run, put_unless_there, put_offer, put_offers, first_of, patch_at}
use Rattle.session_steps.specs.State.{machine_of}
use Rattle.session_steps.specs.Offers.{entry_at, bytes_at, offer_of}
use Rattle.entry_model.specs.Entry.{Entry}
use Rattle.session_laws.specs.Lent.{IsLent, BootsLend, LoadsLend}
use Rattle.session_laws.proofs.Entries.{HasRevision, entries_have}
use Rattle.session_laws.proofs.Parts.{IsOffered, at_boot, at_load}
use Rattle.session_laws.proofs.Putting.{all_put_stand}

-- the entry's patch begins somewhere
abbrev IsThere : ℕ → Puts → Type 0
IsThere entry puts = (block : ℕ) × (puts.first entry ≡ Some block)

abbrev HasPut : ℕ → Result Puts ℕ → Type 0
HasPut entry (Ok puts) = IsThere entry puts
HasPut entry (Err needed) = Unit {0}

module _ (blocks : ℕ) (bytes : ℕ → List ℕ) where
  run_keeps : (puts : Puts) (entry other : ℕ) (run : Option ℕ) → IsThere other puts →
      HasPut other (put_in_run puts entry (bytes entry) run)
  run_keeps puts entry other None there = tt
  run_keeps puts entry other (Some first) there = elim (cases_eq other entry) [
    | inl same ↦ (first, rw (eq-eqb other entry same) refl)
    | inr far ↦ (there.0, rw (ne_eqb other entry far) there.1)
  ]

  run_has : (puts : Puts) (entry : ℕ) (run : Option ℕ) → HasPut entry (put_in_run puts entry (bytes entry) run)
  run_has puts entry None = tt
  run_has puts entry (Some first) = (first, rw (eq-eqb entry entry refl) refl)

  unless_keeps : (puts : Puts) (entry other : ℕ) (place : Option ℕ) → IsThere other puts →
      HasPut other (put_unless_there blocks puts entry (bytes entry) place)
  unless_keeps puts entry other (Some block) there = there
  unless_keeps puts entry other None there =
      run_keeps puts entry other (lowest_run puts.patches blocks (blocks_of (bytes entry))) there

  unless_has : (puts : Puts) (entry : ℕ) (place : Option ℕ) → puts.first entry ≡ place →
      HasPut entry (put_unless_there blocks puts entry (bytes entry) place)
  unless_has puts entry (Some block) is = (block, is)
  unless_has puts entry None is = run_has puts entry (lowest_run puts.patches blocks (blocks_of (bytes entry)))

  offer_keeps : (puts : Puts) (offer : Option ℕ) (other : ℕ) → IsThere other puts →
      HasPut other (put_offer blocks bytes puts offer)
  offer_keeps puts None other there = there
  offer_keeps puts (Some entry) other there = unless_keeps puts entry other (puts.first entry) there

  offers_keep : (row : Result Puts ℕ) (offers : List (Option ℕ)) (entry : ℕ) → HasPut entry row →
      HasPut entry (put_offers blocks bytes row offers)
  offers_keep row [] entry has = has
  offers_keep (Err needed) (offer ∷ offers) entry has = tt
  offers_keep (Ok puts) (offer ∷ offers) entry has =
      offers_keep (put_offer blocks bytes puts offer) offers entry (offer_keeps puts offer entry has)

  offers_have : (row : Result Puts ℕ) (offers : List (Option ℕ)) (g entry : ℕ) → get_or offers g None ≡ Some entry →
      HasPut entry (put_offers blocks bytes row offers)
  offers_have row [] g entry is = absurd cc
  offers_have (Err needed) (offer ∷ offers) g entry is = tt
  offers_have (Ok puts) (offer ∷ offers) zero entry is =
      offers_keep (put_offer blocks bytes puts offer) offers entry
      (subst (λ (offer : Option ℕ). HasPut entry (put_offer blocks bytes puts offer)) (sym is)
      (unless_has puts entry (puts.first entry) refl))
  offers_have (Ok puts) (offer ∷ offers) (suc g) entry is =
      offers_have (put_offer blocks bytes puts offer) offers g entry is

-- so the patch that is lent for a group's offer has the bytes of its entry
lent : (blocks : ℕ) (entries : List Entry) (Offered : ℕ → Type 0)
    (has : (number : ℕ) → Offered number → HasRevision (entry_at entries number)) (start : Patches)
    (offers : List (Option ℕ)) (puts : Puts) →
    ((block : ℕ) (patch : List ℕ) → start block ≡ Some patch → 8 ≤ length patch) →
    ((g number : ℕ) → offer_of offers g ≡ Some number → Offered number) →
    put_offers blocks (bytes_at entries) (Ok (no_puts start)) offers ≡ Ok puts →
    (g number : ℕ) → offer_of offers g ≡ Some number → IsLent entries offers puts g number
lent blocks entries Offered has start offers puts whole offered put g number is =
    let there : IsThere number puts =
    subst (HasPut number) put (offers_have blocks (bytes_at entries) (Ok (no_puts start)) offers g number is) in
    let stand =
    all_put_stand blocks (bytes_at entries) Offered (λ entry its. (has entry its).long) start offers puts whole offered put in
    record {
      patch =
          ap (λ (offer : Option ℕ). patch_at puts.patches (first_of puts offer)) is
          ∙ ap (patch_at puts.patches) there.1
          ∙ stand.there number there.0 there.1;
      stated = (has number (offered g number is)).stated;
    }

pub boots_lend : BootsLend
boots_lend setting state names reads entries offers puts g number stands read are put is =
    let groups : ℕ = (machine_of setting).groups in
    lent setting.blocks entries (IsOffered groups entries offers) (λ entry its. its.has) state.patches offers puts
    stands.patches.whole (at_boot setting entries offers (entries_have names reads entries read) are) put g number is

pub loads_lend : LoadsLend
loads_lend setting state force names reads entries offers puts g number stands read are put is =
    let groups : ℕ = (machine_of setting).groups in
    lent setting.blocks entries (IsOffered groups entries offers) (λ entry its. its.has) state.patches offers puts
    stands.patches.whole (at_load setting state force entries offers (entries_have names reads entries read) are) put g number is
