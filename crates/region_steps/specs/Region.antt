-- What a region of blocks holds. Its blocks are numbered from 0.
use Rattle.std.specs.Prelude.{◌≡◌, ◌≢◌, ℕ, ◌+◌, ◌-◌, ◌/◌, ◌<◌, ◌≤◌, ◌==◌, ◌&&◌, not, nat_le, nat_lt, Bool, true, false}
use Rattle.std.specs.Prelude.{if◌then◌else◌, List, length, Option, Some, None, is_some, find, count_by}
use Rattle.std.specs.List.{range_with_len, list_any, list_all}

-- the patches: by block, the bytes of the patch that begins there
abbrev pub Patches : Type 0
Patches = ℕ → Option (List ℕ)

abbrev pub no_patches : Patches
no_patches block = None

-- a patch begins at the block
abbrev pub begins_at : Patches → ℕ → Bool
begins_at patches block = is_some (patches block)

-- how many blocks of 1,024 bytes these bytes take
abbrev pub blocks_of : List ℕ → ℕ
blocks_of bytes = (length bytes + 1023) / 1024

-- how many blocks are taken by what begins at a block
abbrev pub width : Option (List ℕ) → ℕ
width None = 0
width (Some bytes) = blocks_of bytes

-- the patch that begins at one block covers the other
abbrev pub covers : Patches → ℕ → ℕ → Bool
covers patches first block = nat_le first block && nat_lt block (first + width (patches first))

-- some patch covers the block
unfoldable pub is_covered : Patches → ℕ → Bool
is_covered patches block = list_any (λ first. covers patches first block) (range_with_len 0 (block + 1))

-- no patch covers any of these blocks: so many, from the first on
unfoldable pub is_free_run : Patches → ℕ → ℕ → Bool
is_free_run patches needed first = list_all (λ block. not (is_covered patches block)) (range_with_len first needed)

-- Of a region of so many blocks: where the lowest run of so many free blocks begins.
unfoldable pub lowest_run : Patches → ℕ → ℕ → Option ℕ
lowest_run patches blocks needed = find (is_free_run patches needed) (range_with_len 0 (blocks + 1 - needed))

-- how many blocks the longest run of free blocks has
pub record IsLongestFree (patches : Patches) (blocks longest : ℕ) : Type 0 where
  pub is_there : is_some (lowest_run patches blocks longest) ≡ true
  pub none_longer : (needed : ℕ) → is_some (lowest_run patches blocks needed) ≡ true → needed ≤ longest

-- how many patches there are
unfoldable pub held : Patches → ℕ → ℕ
held patches blocks = count_by (begins_at patches) (range_with_len 0 blocks)

-- the patches after one was put at a block
unfoldable pub put_at : Patches → ℕ → List ℕ → Patches
put_at patches first bytes block = if block == first then Some bytes else patches block

-- the patches after the one that begins at a block was taken out
unfoldable pub take_out : Patches → ℕ → Patches
take_out patches first block = if block == first then None else patches block

-- Each patch has a byte and lies inside the region, and no two patches cover one block.
pub record Stands (patches : Patches) (blocks : ℕ) : Type 0 where
  pub has_bytes : (first : ℕ) (bytes : List ℕ) → patches first ≡ Some bytes → 0 < length bytes
  pub is_inside : (first : ℕ) (bytes : List ℕ) → patches first ≡ Some bytes → first + blocks_of bytes ≤ blocks
  pub are_apart : (first other block : ℕ) → first ≢ other
      → covers patches first block ≡ true → covers patches other block ≡ false
