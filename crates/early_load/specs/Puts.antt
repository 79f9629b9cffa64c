-- Offered entries in a region, and where the patch of each group's offer begins.
use Rattle.std.specs.Prelude.{◌≡◌, ℕ, ◌<◌, List, length, Option, Some, None, slice_index_or, if◌then◌else◌, Result, Ok}
use Rattle.patch_pool.specs.declared.pool.PatchId.{PatchId}
use Rattle.region_steps.specs.Region.{Patches}
use Rattle.machine_steps.specs.Puts.{Puts, no_puts, put_offers, first_of, is_cached}
use Rattle.uc_catalog.specs.Contents.{Contents, entry_at}
use Rattle.early_load.specs.Caches.{place_at}

-- the bytes of each entry, by its number
abbrev pub bytes_at : Contents → ℕ → List ℕ
bytes_at contents entry = (entry_at contents entry).bytes

-- the entry that a group is offered
abbrev pub offer_of : List (Option ℕ) → ℕ → Option ℕ
offer_of offers g = slice_index_or offers g None

abbrev pub IsEntry : ℕ → Option ℕ → Type 0
IsEntry entries None = Unit {0}
IsEntry entries (Some entry) = entry < entries

-- each offer is an entry of the catalogue
abbrev pub AreEntries : Contents → List (Option ℕ) → Type 0
AreEntries contents offers = (g : ℕ) → g < length offers → IsEntry (length contents.entries) (offer_of offers g)

-- a region of so many blocks after the offers were put into it
abbrev pub puts_of : ℕ → Contents → List (Option ℕ) → Patches → Result Puts ℕ
puts_of blocks contents offers patches = put_offers blocks (bytes_at contents) (Ok (no_puts patches)) offers

-- The offers were put, and this is where the patch of each group's offer begins.
pub record ArePut (row : Result Puts ℕ) (offers : List (Option ℕ)) (after : Patches)
    (places : List (Option PatchId)) : Type 0 where
  pub puts : Puts
  pub put : row ≡ Ok puts
  pub patches : after ≡ puts.patches
  pub groups : length places ≡ length offers
  pub place : (g : ℕ) → place_at places g ≡ first_of puts (offer_of offers g)

-- no group's patch begins at the block
abbrev pub IsElsewhere : List (Option PatchId) → ℕ → Type 0
IsElsewhere places block = (g : ℕ) → place_at places g ≡ Some block → ⊥

-- the patches without those that begin at these places
unfoldable pub without : List (Option PatchId) → Patches → Patches
without places patches block = if is_cached (length places) (place_at places) block then None else patches block
