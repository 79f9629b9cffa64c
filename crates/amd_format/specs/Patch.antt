-- A patch, and the section that it stands in.
use Rattle.std.specs.Prelude.{◌≡◌, ◌⊎◌, ℕ, ◌+◌, ◌/◌, ◌%◌, ◌^◌, ◌<◌, ◌≤◌, ◌==◌, if◌then◌else◌, List, length, drop}
use Rattle.uc_bytes.specs.Words.{word, half}

-- the family of the processors that a patch of this id is for
abbrev pub patch_family : ℕ → ℕ
patch_family id = 0xf + id / 2 ^ 12

-- the family in a processor's signature: bits 11 to 8, and where these are 15 bits 27 to 20 are added
abbrev pub sig_family : ℕ → ℕ
sig_family sig =
    if sig / 2 ^ 8 % 16 == 15 then 15 + sig / 2 ^ 20 % 256 else sig / 2 ^ 8 % 16

-- the fields of a patch's header of 64 bytes
abbrev pub patch_rev : List ℕ → ℕ
patch_rev patch = word patch 4

abbrev pub north_device : List ℕ → ℕ
north_device patch = word patch 16

abbrev pub south_device : List ℕ → ℕ
south_device patch = word patch 20

abbrev pub patch_id : List ℕ → ℕ
patch_id patch = half patch 24

-- a patch of this family may not have so many bytes
abbrev pub PastBound : ℕ → ℕ → Type 0
PastBound family size =
    ((0x10 ≤ family) × (family ≤ 0x12) × (2048 < size)) ⊎ ((family ≡ 0x14) × (1824 < size))

-- a patch: its header, and what follows it; for a processor, and not for a chipset device
pub record IsPatch (patch : List ℕ) : Type 0 where
  pub header : 64 ≤ length patch
  pub bounded : PastBound (patch_family (patch_id patch)) (length patch) → ⊥
  pub no_north : north_device patch ≡ 0
  pub no_south : south_device patch ≡ 0

-- what stands in a section behind its head of 8 bytes
abbrev pub patch_of : List ℕ → List ℕ
patch_of section = drop 8 section

-- a section: the type 1, the patch's length, and then the patch
pub record IsSection (section : List ℕ) : Type 0 where
  pub head : 8 ≤ length section
  pub kind : word section 0 ≡ 1
  pub whole : length section ≡ 8 + word section 4
  pub patch : IsPatch (patch_of section)
