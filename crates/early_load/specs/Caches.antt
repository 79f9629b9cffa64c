-- What a cache stands for, and what a region holds beside it.
use Rattle.std.specs.Prelude.{◌≡◌, ◌≢◌, ℕ, ◌<◌, ◌≤◌, true, List, length, Option, Some, None, slice_index_or}
use Rattle.std.specs.Prelude.{if◌then◌else◌}
use Rattle.patch_pool.specs.declared.pool.PatchId.{PatchId}
use Rattle.region_steps.specs.Region.{Patches, take_out}
use Rattle.machine_steps.specs.Puts.{is_cached, patch_at}
use Rattle.machine_steps.specs.BringUps as bring_ups
use Rattle.early_load.specs.declared.cache.PatchCache.{PatchCache}

-- where the patch with an id begins
abbrev pub first_block : Option PatchId → Option ℕ
first_block None = None
first_block (Some id) = Some id.0

-- where the patch of a group begins: past the last group there is none
abbrev pub place_at : List (Option PatchId) → ℕ → Option ℕ
place_at patches g = first_block (slice_index_or patches g None)

abbrev pub groups_of : PatchCache → ℕ
groups_of cache = length cache.patches.items

-- where the patch begins that each group caches
abbrev pub cached_of : PatchCache → ℕ → Option ℕ
cached_of cache g = place_at cache.patches.items g

abbrev pub nothing_cached : ℕ → Option ℕ
nothing_cached g = None

-- the bytes of the patch that each group caches
abbrev pub cached_patches : Patches → (ℕ → Option ℕ) → bring_ups.CachedPatches
cached_patches patches cached g = patch_at patches (cached g)

-- the patch is there, and has its revision word
abbrev pub HoldsPatch : Option (List ℕ) → Type 0
HoldsPatch None = ⊥
HoldsPatch (Some bytes) = 8 ≤ length bytes

-- the region holds the patch that each group caches
abbrev pub CachesHold : ℕ → Patches → (ℕ → Option ℕ) → Type 0
CachesHold groups patches cached = (g first : ℕ) → g < groups → cached g ≡ Some first → HoldsPatch (patches first)

-- the patches without the one at a block, unless a group caches it
abbrev pub swept_at : ℕ → (ℕ → Option ℕ) → Patches → ℕ → Patches
swept_at groups cached patches block = if is_cached groups cached block then patches else take_out patches block

-- The region holds the patch that each group caches, and no other.
pub record HoldsJustCached (groups : ℕ) (patches : Patches) (cached : ℕ → Option ℕ) : Type 0 where
  pub each : CachesHold groups patches cached
  pub only : (block : ℕ) → patches block ≢ None → is_cached groups cached block ≡ true
