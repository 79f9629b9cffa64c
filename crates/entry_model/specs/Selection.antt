-- Which entry a core is offered: Linux 6.7, arch/x86/kernel/cpu/microcode, in `core.c`, `intel.c` and `amd.c`.
use Rattle.std.specs.Prelude.{◌≡◌, ◌≢◌, ◌⊎◌, ℕ, ◌<◌, ◌≤◌, Bool, IsTrue, List, Option, Some, None, slice_get, bit_and}
use Rattle.uc_bytes.specs.declared.causes.Vendor.{Vendor}
use Rattle.uc_bytes.specs.declared.causes.Vendor.TheVariants.{Intel, Amd}
use Rattle.amd_format.specs.Equiv.{id_of}
use Rattle.amd_format.specs.Patch.{sig_family}
use Rattle.entry_model.specs.declared.facts.CoreFacts.{CoreFacts}
use Rattle.entry_model.specs.Entry.{Entry}

-- the processor flags are both 0, or share a bit
abbrev pub FlagsMeet : ℕ → ℕ → Type 0
FlagsMeet flags others = ((flags ≡ 0) × (others ≡ 0)) ⊎ (bit_and flags others ≢ 0)

-- one of the pairs is for this signature and these processor flags
pub record HasPair (pairs : List (ℕ × ℕ)) (sig flags : ℕ) : Type 0 where
  pub place : ℕ
  pub pair : ℕ × ℕ
  pub there : slice_get pairs place ≡ Some pair
  pub of_sig : pair.0 ≡ sig
  pub of_flags : FlagsMeet pair.1 flags

-- the table of the patch's own container gives its id for the signature, and the patch is of that signature's family,
-- which is none of the two that are never offered
pub record IsServed (entry : Entry) (sig : ℕ) : Type 0 where
  pub by_table : id_of entry.rows sig ≡ entry.facts.id
  pub some_id : entry.facts.id ≢ 0
  pub of_family : entry.facts.family ≡ sig_family sig
  pub not_0f : entry.facts.family ≢ 0x0f
  pub not_13 : entry.facts.family ≢ 0x13

abbrev pub FitsOf : Vendor → Entry → CoreFacts → Type 0
FitsOf Intel entry core = HasPair entry.pairs core.sig core.flags
FitsOf Amd entry core = IsServed entry core.sig

-- an entry fits only a core of its own vendor
abbrev pub Fits : Entry → CoreFacts → Type 0
Fits entry core =
    (entry.facts.vendor ≡ core.vendor) × FitsOf core.vendor entry core

-- a load without a reboot is safe at a revision, by what the update itself says
pub record IsSafe (entry : Entry) (rev : ℕ) : Type 0 where
  pub intel : entry.facts.vendor ≡ Intel
  pub stated : entry.facts.min ≢ 0
  pub reached : entry.facts.min ≤ rev

-- the entry fits, and its revision is above the core's; a forced load takes only a safe one
pub record Admissible (entry : Entry) (core : CoreFacts) (force : Bool) : Type 0 where
  pub fits : Fits entry core
  pub above : core.rev < entry.facts.rev
  pub safe : IsTrue force → IsSafe entry core.rev

-- an admissible entry of the greatest revision, and the first of these
pub record IsBest (entries : List Entry) (core : CoreFacts) (force : Bool) (best : ℕ) : Type 0 where
  pub entry : Entry
  pub there : slice_get entries best ≡ Some entry
  pub admissible : Admissible entry core force
  pub greatest : (i : ℕ) (other : Entry) → slice_get entries i ≡ Some other → Admissible other core force → other.facts.rev ≤ entry.facts.rev
  pub first : (i : ℕ) (other : Entry) → i < best → slice_get entries i ≡ Some other → Admissible other core force → other.facts.rev < entry.facts.rev

-- the entry that a core is offered, by its number; or none, where none is admissible
abbrev pub IsOffer : List Entry → CoreFacts → Bool → Option ℕ → Type 0
IsOffer entries core force (Some best) = IsBest entries core force best
IsOffer entries core force None =
    (i : ℕ) (other : Entry) → slice_get entries i ≡ Some other → Admissible other core force → ⊥
