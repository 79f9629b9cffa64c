-- Which blocks of a region are free, and how taking some and giving some back changes it.
use Rattle.std.specs.Prelude.{◌≡◌, ℕ, ◌+◌, ◌-◌, ◌<◌, ◌≤◌, ◌&&◌, ◌||◌, not, nat_le, nat_lt, Bool, true, Option, Some}
use Rattle.std.specs.Prelude.{None, is_some, find}
use Rattle.std.specs.List.{range_with_len, list_all}
use Rattle.region_steps.specs.Region.{Patches, is_covered}

-- the block is one of so many, from the first on
abbrev pub is_within : ℕ → ℕ → ℕ → Bool
is_within first count block = nat_le first block && nat_lt block (first + count)

-- Of a region of so many blocks: where the lowest run of so many free blocks begins.
unfoldable pub lowest_of : (ℕ → Bool) → ℕ → ℕ → Option ℕ
lowest_of is_free blocks needed =
    find (λ first. list_all is_free (range_with_len first needed)) (range_with_len 0 (blocks + 1 - needed))

-- how many blocks the longest run of free blocks has
pub record IsLongest (is_free : ℕ → Bool) (blocks longest : ℕ) : Type 0 where
  pub is_there : is_some (lowest_of is_free blocks longest) ≡ true
  pub none_longer : (needed : ℕ) → is_some (lowest_of is_free blocks needed) ≡ true → needed ≤ longest

-- the lowest run of so many free blocks was taken, and no other block; none where there is no such run
abbrev pub IsTaken : (ℕ → Bool) → (ℕ → Bool) → ℕ → ℕ → Option ℕ → Type 0
IsTaken was_free is_free blocks needed None =
    (lowest_of was_free blocks needed ≡ None) × ((block : ℕ) → is_free block ≡ was_free block)
IsTaken was_free is_free blocks needed (Some first) =
    (lowest_of was_free blocks needed ≡ Some first)
    × ((block : ℕ) → is_free block ≡ (was_free block && not (is_within first needed block)))

-- so many blocks were given back, from the first on
abbrev pub IsGivenBack : (ℕ → Bool) → (ℕ → Bool) → ℕ → ℕ → Type 0
IsGivenBack was_free is_free first count =
    (block : ℕ) → is_free block ≡ (was_free block || is_within first count block)

-- the free blocks of a region are those that no patch covers
abbrev pub AreFree : (ℕ → Bool) → Patches → ℕ → Type 0
AreFree is_free patches blocks = (block : ℕ) → block < blocks → is_free block ≡ not (is_covered patches block)
