-- Patches as they lie in memory.
use Rattle.std.specs.Prelude.{ℕ, ◌+◌, ◌*◌, ◌<◌, ◌≤◌, ◌==◌, if◌then◌else◌, Bool, not, List, ◌++◌, length, take, drop}
use Rattle.std.specs.Prelude.{slice_index, Option, Some, None}
use Rattle.region_steps.specs.Region.{Patches}

-- the patch of so many bytes at the begin of others, or none where it has none
abbrev pub patch_of : ℕ → List ℕ → Option (List ℕ)
patch_of len bytes = if len == 0 then None else Some (take len bytes)

-- a patch has this length
abbrev pub begins : ℕ → Bool
begins len = not (len == 0)

-- the patches of these lengths, by the block at which each begins
unfoldable pub patches_in : List ℕ → List ℕ → Patches
patches_in bytes lengths first = patch_of (slice_index lengths first) (drop (1024 * first) bytes)

-- each ends inside the memory
abbrev pub EndInside : List ℕ → List ℕ → Type 0
EndInside bytes lengths =
    (first : ℕ) → 0 < slice_index lengths first → 1024 * first + slice_index lengths first ≤ length bytes

-- bytes with others copied over them, from an index on
abbrev pub copied_over : List ℕ → ℕ → List ℕ → List ℕ
copied_over bytes at new = take at bytes ++ (new ++ drop (at + length new) bytes)
