-- What a put answers, and what a region holds after it.
use Rattle.std.specs.Prelude.{◌≡◌, ℕ, ◌<◌, ◌↔◌, true, List, Some, None, Result, Ok, Err, IsErr}
use Rattle.region_steps.specs.Region.{Patches, begins_at, blocks_of, lowest_run, IsLongestFree, put_at}
use Rattle.patch_pool.specs.declared.pool.PatchId.{PatchId}
use Rattle.patch_pool.specs.declared.pool.PoolFull.{PoolFull}

-- In a region of so many blocks the bytes were put at the lowest run of free blocks that has as many as they take; or
-- there is no such run, and nothing changed.
abbrev pub IsPut : Patches → Patches → ℕ → List ℕ → Result PatchId PoolFull → Type 0
IsPut old new blocks bytes (Ok id) =
    (lowest_run old blocks (blocks_of bytes) ≡ Some id.0) × (new ≡ put_at old id.0 bytes)
IsPut old new blocks bytes (Err full) =
    (lowest_run old blocks (blocks_of bytes) ≡ None) × (full.needed ≡ blocks_of bytes) × (new ≡ old)

-- the patches that the region held are there, as they were
abbrev pub AllStay : Patches → Patches → Type 0
AllStay old new = (first : ℕ) → begins_at old first ≡ true → new first ≡ old first

-- a put is refused exactly where the longest run of free blocks is shorter than what the bytes take
abbrev pub IsFullWhereShort : Patches → ℕ → List ℕ → Result PatchId PoolFull → Type 0
IsFullWhereShort patches blocks bytes answer =
    (longest : ℕ) → IsLongestFree patches blocks longest → IsErr answer ↔ (longest < blocks_of bytes)
