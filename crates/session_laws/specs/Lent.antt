-- What the region lends once the patches of all offers of a boot or a load were put.
use Rattle.std.specs.Prelude.{◌≡◌, ℕ, Bool, List, Option, Some, Ok}
use Rattle.entry_model.specs.Entry.{Entry}
use Rattle.read_model.specs.Reads.{Read}
use Rattle.report_text.specs.Offers.{AreOffers}
use Rattle.machine_steps.specs.BringUps.{revision}
use Rattle.machine_steps.specs.Puts.{Puts, no_puts, put_offers, first_of, patch_at}
use Rattle.session_steps.specs.State.{Setting, State}
use Rattle.session_steps.specs.Offers.{entry_at, bytes_at, offer_of, AreLoadOffers}
use Rattle.session_steps.specs.Step.{ReadAll}
use Rattle.session_laws.specs.Standing.{Standing}

abbrev pub AllPut : Setting → State → List Entry → List (Option ℕ) → Puts → Type 0
AllPut setting state entries offers puts =
    put_offers setting.blocks (bytes_at entries) (Ok (no_puts state.patches)) offers ≡ Ok puts

-- the patch for a group's offer has the bytes of the entry, and in them stands the entry's revision
pub record IsLent (entries : List Entry) (offers : List (Option ℕ)) (puts : Puts) (g number : ℕ) : Type 0 where
  pub patch : patch_at puts.patches (first_of puts (offer_of offers g)) ≡ Some (bytes_at entries number)
  pub stated : revision (bytes_at entries number) ≡ (entry_at entries number).facts.rev

-- each group that a boot offers an entry is lent its patch
abbrev pub BootsLend : Type 0
BootsLend =
    (setting : Setting) (state : State) (names : List (List ℕ)) (reads : List Read) →
    (entries : List Entry) (offers : List (Option ℕ)) (puts : Puts) (g number : ℕ) →
    Standing setting state →
    ReadAll names reads entries →
    AreOffers setting.machine entries offers →
    AllPut setting state entries offers puts → offer_of offers g ≡ Some number → IsLent entries offers puts g number

-- and each group that a load offers one
abbrev pub LoadsLend : Type 0
LoadsLend =
    (setting : Setting) (state : State) (force : Bool) (names : List (List ℕ)) (reads : List Read) →
    (entries : List Entry) (offers : List (Option ℕ)) (puts : Puts) (g number : ℕ) →
    Standing setting state →
    ReadAll names reads entries →
    AreLoadOffers setting state force entries offers →
    AllPut setting state entries offers puts → offer_of offers g ≡ Some number → IsLent entries offers puts g number
