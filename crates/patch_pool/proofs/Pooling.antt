-- What the free blocks of a region say of its patches, and the other way round.
use Rattle.std.proofs.Common.{inl, inr, ap, ◌≡◌, ℕ, ◌+◌, ◌-◌, ◌<◌, ◌≤◌, ◌↔◌, Bool, true, false, ◌&&◌, ◌||◌, not, List, length, Option, Some, None, is_some, refl, sym, ◌∙◌, subst, arith}
use Rattle.std.proofs.lemmas.Bool.{false≢true, cases_eq}
use Rattle.std.specs.List.{list_all, range_with_len}
use Rattle.region_steps.specs.Region.{Patches, no_patches, begins_at, blocks_of, width, covers, is_covered, is_free_run, lowest_run, IsLongestFree, put_at, take_out, Stands}
use Rattle.region_steps.proofs.Rows.{all_alike, found_alike}
use Rattle.region_steps.proofs.Covered.{covers_means, covered_by, not_covered, begins_no_patch}
use Rattle.region_steps.proofs.Changed.{is_among, put_other, covers_none, covered_put, covered_out}
use Rattle.region_steps.proofs.Standing.{put_stands}
use Rattle.region_steps.proofs.Longest.{IsFreeInside, lowest_is_free, longer_than_longest, not_longer}
use Rattle.patch_pool.specs.Free.{is_within, lowest_of, IsLongest, IsTaken, AreFree}

-- the blocks that a row of free ones has are in the region
rows_alike : (is_free : ℕ → Bool) (patches : Patches) (blocks needed first : ℕ) → AreFree is_free patches blocks → first + needed ≤ blocks → list_all is_free (range_with_len first needed) ≡ is_free_run patches needed first
unfolding is_free_run
rows_alike is_free patches blocks needed first free inside =
    all_alike is_free (λ block. not (is_covered patches block)) first needed (λ block low high. free block (omega (arith, high, inside)))

pub lowest_same : (is_free : ℕ → Bool) (patches : Patches) (blocks needed : ℕ) → AreFree is_free patches blocks → lowest_of is_free blocks needed ≡ lowest_run patches blocks needed
unfolding lowest_of lowest_run
lowest_same is_free patches blocks needed free =
    found_alike (λ first. list_all is_free (range_with_len first needed)) (is_free_run patches needed) 0 (blocks + 1 - needed) (λ first low high. rows_alike is_free patches blocks needed first free (omega (arith, high)))

pub longest_same : (is_free : ℕ → Bool) (patches : Patches) (blocks longest : ℕ) → AreFree is_free patches blocks → IsLongest is_free blocks longest → IsLongestFree patches blocks longest
longest_same is_free patches blocks longest free is = record {
  is_there = ap is_some (sym (lowest_same is_free patches blocks longest free)) ∙ is.is_there;
  none_longer = λ needed there. is.none_longer needed (ap is_some (lowest_same is_free patches blocks needed free) ∙ there);
}

-- without patches all blocks are free
pub all_free : (is_free : ℕ → Bool) (blocks : ℕ) → ((block : ℕ) → block < blocks → is_free block ≡ true) → AreFree is_free no_patches blocks
all_free is_free blocks each block lt = each block lt ∙ ap not (sym (not_covered no_patches block (λ first. covers_none no_patches first block refl)))

-- ---- a patch that is held

pub record IsHeld (patches : Patches) (blocks first : ℕ) : Type 0 where
  pub some : 0 < width (patches first)
  pub inside : first + width (patches first) ≤ blocks

held_as : (patches : Patches) (blocks first : ℕ) (patch : Option (List ℕ)) → Stands patches blocks → patches first ≡ patch → is_some patch ≡ true → IsHeld patches blocks first
held_as patches blocks first None stand is begins = absurd (false≢true begins)
held_as patches blocks first (Some bytes) stand is begins =
    let wide : width (patches first) ≡ blocks_of bytes = ap width is in
    record { some = omega (arith, wide, stand.has_bytes first bytes is); inside = omega (arith, wide, stand.is_inside first bytes is) }

pub held_is : (patches : Patches) (blocks first : ℕ) → Stands patches blocks → begins_at patches first ≡ true → IsHeld patches blocks first
held_is patches blocks first stand begins = held_as patches blocks first (patches first) stand refl begins

-- ---- a put

-- where a patch may be put
pub put_where : (is_free : ℕ → Bool) (patches : Patches) (blocks needed first : ℕ) → AreFree is_free patches blocks → lowest_of is_free blocks needed ≡ Some first → IsFreeInside patches blocks needed first
put_where is_free patches blocks needed first free lowest = lowest_is_free patches blocks needed first (sym (lowest_same is_free patches blocks needed free) ∙ lowest)

not_either : (one two : Bool) → (not one && not two) ≡ not (one || two)
not_either true two = refl
not_either false two = refl

pub free_after_put : (was_free is_free : ℕ → Bool) (patches : Patches) (blocks first : ℕ) (bytes : List ℕ) → AreFree was_free patches blocks → 0 < length bytes → is_free_run patches (blocks_of bytes) first ≡ true
    → ((block : ℕ) → is_free block ≡ (was_free block && not (is_within first (blocks_of bytes) block))) → AreFree is_free (put_at patches first bytes) blocks
free_after_put was_free is_free patches blocks first bytes free some run changed block lt =
    let none = begins_no_patch patches (blocks_of bytes) first run (omega (arith, some)) in
    changed block ∙ ap (λ (b : Bool). b && not (is_within first (blocks_of bytes) block)) (free block lt) ∙ not_either (is_covered patches block) (is_among first bytes block) ∙ ap not (sym (covered_put patches first bytes block none))

-- what is known where blocks were taken for a patch
pub record IsPutAt (is_free : ℕ → Bool) (patches : Patches) (blocks : ℕ) (bytes : List ℕ) (first : ℕ) : Type 0 where
  pub lowest : lowest_run patches blocks (blocks_of bytes) ≡ Some first
  pub free : is_free_run patches (blocks_of bytes) first ≡ true
  pub inside : first + blocks_of bytes ≤ blocks
  pub stand : Stands (put_at patches first bytes) blocks
  pub free_are : AreFree is_free (put_at patches first bytes) blocks

pub taken_for : (was_free is_free : ℕ → Bool) (patches : Patches) (blocks needed first : ℕ) (bytes : List ℕ) → AreFree was_free patches blocks → Stands patches blocks → 0 < length bytes → needed ≡ blocks_of bytes
    → IsTaken was_free is_free blocks needed (Some first) → IsPutAt is_free patches blocks bytes first
taken_for was_free is_free patches blocks needed first bytes free stand some is taken =
    let taken' : IsTaken was_free is_free blocks (blocks_of bytes) (Some first) = subst (λ (n : ℕ). IsTaken was_free is_free blocks n (Some first)) is taken in
    let there = put_where was_free patches blocks (blocks_of bytes) first free taken'.0 in
    record {
      lowest = sym (lowest_same was_free patches blocks (blocks_of bytes) free) ∙ taken'.0;
      free = there.free;
      inside = there.inside;
      stand = put_stands patches blocks first bytes stand some there.inside there.free;
      free_are = free_after_put was_free is_free patches blocks first bytes free some there.free taken'.1;
    }

-- a patch that the region holds stays
pub stays_put : (is_free : ℕ → Bool) (patches : Patches) (blocks : ℕ) (bytes : List ℕ) (first other : ℕ) → IsPutAt is_free patches blocks bytes first → 0 < length bytes → IsHeld patches blocks other → put_at patches first bytes other ≡ patches other
stays_put is_free patches blocks bytes first other put some held =
    elim (cases_eq other first) [
      | inl same ↦ absurd (omega (arith, held.some, begins_no_patch patches (blocks_of bytes) first put.free (omega (arith, some)), ap (λ (f : ℕ). width (patches f)) same))
      | inr apart ↦ put_other patches first bytes other apart
    ]

pub none_for : (was_free is_free : ℕ → Bool) (patches : Patches) (blocks needed : ℕ) (bytes : List ℕ) → AreFree was_free patches blocks → needed ≡ blocks_of bytes
    → IsTaken was_free is_free blocks needed None → lowest_run patches blocks (blocks_of bytes) ≡ None
none_for was_free is_free patches blocks needed bytes free is taken =
    sym (lowest_same was_free patches blocks (blocks_of bytes) free) ∙ subst (λ (n : ℕ). lowest_of was_free blocks n ≡ None) is taken.0

-- a put is refused exactly where the longest run of free blocks is too short
pub refused : (patches : Patches) (blocks needed longest : ℕ) → lowest_run patches blocks needed ≡ None → IsLongestFree patches blocks longest → (true ≡ true) ↔ (longest < needed)
refused patches blocks needed longest none is = (λ _. longer_than_longest patches blocks longest needed is none, λ _. refl)

pub fitted : (patches : Patches) (blocks needed first longest : ℕ) → lowest_run patches blocks needed ≡ Some first → IsLongestFree patches blocks longest → (false ≡ true) ↔ (longest < needed)
fitted patches blocks needed first longest some is =
    (λ e. absurd (false≢true e), λ lt. absurd (omega (arith, lt, not_longer patches blocks longest needed first is some)))

-- ---- a patch that is freed

-- its blocks are not free
pub not_free : (is_free : ℕ → Bool) (patches : Patches) (blocks first : ℕ) → AreFree is_free patches blocks → IsHeld patches blocks first → (block : ℕ) → is_within first (width (patches first)) block ≡ true → is_free block ≡ false
not_free is_free patches blocks first free held block within =
    let means = covers_means patches first block within in
    free block (omega (arith, means.1, held.inside)) ∙ ap not (covered_by patches first block within)

not_both : (one two : Bool) → (not one || two) ≡ not (one && not two)
not_both true true = refl
not_both true false = refl
not_both false two = refl

pub free_after_out : (was_free is_free : ℕ → Bool) (patches : Patches) (blocks first : ℕ) → AreFree was_free patches blocks → Stands patches blocks
    → ((block : ℕ) → is_free block ≡ (was_free block || is_within first (width (patches first)) block)) → AreFree is_free (take_out patches first) blocks
free_after_out was_free is_free patches blocks first free stand changed block lt =
    changed block ∙ ap (λ (b : Bool). b || is_within first (width (patches first)) block) (free block lt) ∙ not_both (is_covered patches block) (covers patches first block) ∙ ap not (sym (covered_out patches first block (λ other apart. stand.are_apart first other block apart)))
