-- What a boot or a load puts into the region: the patch of each entry that is offered, once, in the order of the groups
-- that are offered it, at the lowest run of free blocks that is long enough. Groups that are offered the same entry
-- share its patch. Afterwards a sweep leaves just the patches that a group caches.
use Rattle.std.specs.Prelude.{ℕ, Bool, false, ◌==◌, if◌then◌else◌, List, [], ◌∷◌, Option, Some, None, Result, Ok, Err}
use Rattle.std.specs.List.{list_any, range_with_len}
use Rattle.region_steps.specs.Region as region
use Rattle.machine_steps.specs.Hardware.{put}

-- the region, and where the patch of an entry begins that was put in this command
pub record Puts : Type 0 where
  pub patches : region.Patches
  pub first : ℕ → Option ℕ

abbrev pub no_puts : region.Patches → Puts
no_puts patches = record { patches = patches; first = λ entry. None }

-- the entry's patch begins at this block from now on
abbrev pub with_patch : Puts → ℕ → ℕ → List ℕ → Puts
with_patch puts entry first bytes = record {
  patches = region.put_at puts.patches first bytes;
  first = put puts.first entry (Some first);
}

-- the patch of an entry at the run that was found, or how many blocks are wanted
abbrev pub put_in_run : Puts → ℕ → List ℕ → Option ℕ → Result Puts ℕ
put_in_run puts entry bytes (Some first) = Ok (with_patch puts entry first bytes)
put_in_run puts entry bytes None = Err (region.blocks_of bytes)

-- an entry that was put already is not put again
abbrev pub put_unless_there : ℕ → Puts → ℕ → List ℕ → Option ℕ → Result Puts ℕ
put_unless_there blocks puts entry bytes (Some there) = Ok puts
put_unless_there blocks puts entry bytes None =
    put_in_run puts entry bytes (region.lowest_run puts.patches blocks (region.blocks_of bytes))

-- the entry that a group is offered, by its number, and the bytes of each entry
abbrev pub put_offer : ℕ → (ℕ → List ℕ) → Puts → Option ℕ → Result Puts ℕ
put_offer blocks bytes puts None = Ok puts
put_offer blocks bytes puts (Some entry) = put_unless_there blocks puts entry (bytes entry) (puts.first entry)

-- the offers of the groups in their order, until one does not fit
abbrev pub put_offers : ℕ → (ℕ → List ℕ) → Result Puts ℕ → List (Option ℕ) → Result Puts ℕ
put_offers blocks bytes puts [] = puts
put_offers blocks bytes (Err needed) offers = Err needed
put_offers blocks bytes (Ok puts) (offer ∷ offers) = put_offers blocks bytes (put_offer blocks bytes puts offer) offers

-- where the patch of a group's offer begins
abbrev pub first_of : Puts → Option ℕ → Option ℕ
first_of puts None = None
first_of puts (Some entry) = puts.first entry

-- Which patches stay: those that a group caches, by the block at which they begin.

abbrev pub is_at : ℕ → Option ℕ → Bool
is_at block None = false
is_at block (Some first) = first == block

unfoldable pub is_cached : ℕ → (ℕ → Option ℕ) → ℕ → Bool
is_cached groups cached block = list_any (λ g. is_at block (cached g)) (range_with_len 0 groups)

unfoldable pub swept : ℕ → (ℕ → Option ℕ) → region.Patches → region.Patches
swept groups cached patches block = if is_cached groups cached block then patches block else None

-- the bytes of the patch that each group caches
abbrev pub patch_at : region.Patches → Option ℕ → Option (List ℕ)
patch_at patches None = None
patch_at patches (Some first) = patches first
