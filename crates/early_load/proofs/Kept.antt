-- Which patches groups cache, and what is left of the others.
use Rattle.std.proofs.Common.{◌≡◌, ℕ, zero, suc, ◌+◌, ◌<◌, ◌≤◌, Bool, true, false, ◌||◌, List, Option, Some, None, refl, sym, ap, ◌∙◌, subst, inl, inr, arith}
use Rattle.std.specs.Prelude.{is_some, ◌-◌}
use Rattle.std.specs.List.{list_any, range_with_len}
use Rattle.std.proofs.Math.Path.{fun_ext}
use Rattle.std.proofs.lemmas.Bool.{cases_Bool, cases_eq, cases_lt, eq-eqb, eqb-true}
use Rattle.region_steps.specs.Region.{Patches, begins_at, take_out, Stands, lowest_run, blocks_of, is_free_run}
use Rattle.std.specs.List.{find}
use Rattle.region_steps.proofs.Rows.{any_passes, none_passes}
use Rattle.region_steps.proofs.Changed.{out_here, out_other}
use Rattle.machine_steps.specs.Puts.{is_at, is_cached, swept}
use Rattle.early_load.specs.Caches.{CachesHold, HoldsPatch, HoldsJustCached}

-- ---- a group that caches a block's patch

pub at_itself : (block : ℕ) (place : Option ℕ) → place ≡ Some block → is_at block place ≡ true
at_itself block None e = absurd cc
at_itself block (Some first) e = let same : first ≡ block = cc in eq-eqb first block same

pub at_means : (block : ℕ) (place : Option ℕ) → is_at block place ≡ true → place ≡ Some block
at_means block None e = absurd cc
at_means block (Some first) e = ap Some (eqb-true first block e)

pub cached_is : (groups : ℕ) (cached : ℕ → Option ℕ) (block g : ℕ) → g < groups → is_at block (cached g) ≡ true → is_cached groups cached block ≡ true
unfolding is_cached
cached_is groups cached block g lt at = any_passes (λ g. is_at block (cached g)) 0 groups g (omega arith) (omega arith) at

pub cached_is_not : (groups : ℕ) (cached : ℕ → Option ℕ) (block : ℕ) → ((g : ℕ) → g < groups → is_at block (cached g) ≡ false) → is_cached groups cached block ≡ false
unfolding is_cached
cached_is_not groups cached block none = none_passes (λ g. is_at block (cached g)) 0 groups (λ g low high. none g (omega (arith, high)))

any_more : (test : ℕ → Bool) (first n : ℕ) → list_any test (range_with_len first (suc n)) ≡ (list_any test (range_with_len first n) || test (first + n))
any_more test first zero =
    let same : first + 0 ≡ first = omega arith in rw same (elim (test first) as (λ b. (b || false) ≡ (false || b)) [ true ↦ refl | false ↦ refl ])
any_more test first (suc n) =
    let same : first + 1 + n ≡ first + suc n = omega arith in
    elim (test first) as (λ b. (b || list_any test (range_with_len (first + 1) (suc n))) ≡ ((b || list_any test (range_with_len (first + 1) n)) || test (first + suc n))) [
      | true ↦ refl
      | false ↦ any_more test (first + 1) n ∙ ap (λ (k : ℕ). list_any test (range_with_len (first + 1) n) || test k) same
    ]

pub cached_more : (n : ℕ) (cached : ℕ → Option ℕ) (block : ℕ) → is_cached (n + 1) cached block ≡ (is_cached n cached block || is_at block (cached n))
unfolding is_cached
cached_more n cached block =
    let next : n + 1 ≡ suc n = omega arith in
    let here : 0 + n ≡ n = omega arith in
    ap (λ (k : ℕ). list_any (λ g. is_at block (cached g)) (range_with_len 0 k)) next ∙ any_more (λ g. is_at block (cached g)) 0 n ∙ ap (λ (k : ℕ). list_any (λ g. is_at block (cached g)) (range_with_len 0 n) || is_at block (cached k)) here

-- ---- a sweep

pub swept_stays : (groups : ℕ) (cached : ℕ → Option ℕ) (patches : Patches) (block : ℕ) → is_cached groups cached block ≡ true → swept groups cached patches block ≡ patches block
unfolding swept
swept_stays groups cached patches block is = rw is refl

pub swept_goes : (groups : ℕ) (cached : ℕ → Option ℕ) (patches : Patches) (block : ℕ) → is_cached groups cached block ≡ false → swept groups cached patches block ≡ None
unfolding swept
swept_goes groups cached patches block not = rw not refl

-- no patch begins past the last block
pub none_past : (patches : Patches) (blocks block : ℕ) → Stands patches blocks → blocks ≤ block → patches block ≡ None
none_past patches blocks block stands past =
    elim (patches block) as (λ patch. patches block ≡ patch → patches block ≡ None) [
      | None ↦ λ e. e
      | Some bytes ↦ λ e. absurd (omega (arith, stands.is_inside block bytes e, stands.has_bytes block bytes e, past))
    ] refl

pub swept_past : (groups : ℕ) (cached : ℕ → Option ℕ) (patches : Patches) (blocks block : ℕ) → Stands patches blocks → blocks ≤ block → swept groups cached patches block ≡ patches block
swept_past groups cached patches blocks block stands past =
    elim (cases_Bool (is_cached groups cached block)) [
      | inl is ↦ swept_stays groups cached patches block is
      | inr not ↦ swept_goes groups cached patches block not ∙ sym (none_past patches blocks block stands past)
    ]

-- a region in which each block was swept
pub swept_whole : (groups : ℕ) (cached : ℕ → Option ℕ) (old new : Patches) (blocks : ℕ) → Stands old blocks
    → ((block : ℕ) → block < blocks → new block ≡ swept groups cached old block) → ((block : ℕ) → blocks ≤ block → new block ≡ old block) → new ≡ swept groups cached old
swept_whole groups cached old new blocks stands done left =
    fun_ext (λ block. elim (cases_lt block blocks) [
      | inl below ↦ done block below
      | inr past ↦ left block past ∙ sym (swept_past groups cached old blocks block stands past)
    ])

pub just_cached : (groups : ℕ) (cached : ℕ → Option ℕ) (old new : Patches) → new ≡ swept groups cached old → CachesHold groups old cached → HoldsJustCached groups new cached
just_cached groups cached old new e held = record {
  each = λ g first below is.
      let stays = ap (λ (patches : Patches). patches first) e ∙ swept_stays groups cached old first (cached_is groups cached first g below (at_itself first (cached g) is)) in
      subst HoldsPatch (sym stays) (held g first below is);
  only = λ block some.
      elim (cases_Bool (is_cached groups cached block)) [
        | inl is ↦ is
        | inr not ↦ absurd (some (ap (λ (patches : Patches). patches block) e ∙ swept_goes groups cached old block not))
      ];
}

-- ---- a patch that is freed

pub none_begins : (patch : Option (List ℕ)) → is_some patch ≡ false → patch ≡ None
none_begins None e = refl
none_begins (Some bytes) e = absurd cc

-- where no patch begins nothing is taken out
pub nothing_out : (patches : Patches) (first : ℕ) → begins_at patches first ≡ false → patches ≡ take_out patches first
nothing_out patches first none =
    fun_ext (λ block. elim (cases_eq block first) [
      | inl same ↦
          subst (λ (k : ℕ). patches k ≡ take_out patches first k) (sym same) (none_begins (patches first) none ∙ sym (out_here patches first))
      | inr other ↦ sym (out_other patches first block other)
    ])

-- ---- an entry that is longer than the region

pub too_long : (patches : Patches) (blocks : ℕ) (bytes : List ℕ) → blocks < blocks_of bytes → lowest_run patches blocks (blocks_of bytes) ≡ None
unfolding lowest_run
too_long patches blocks bytes long =
    let none : blocks + 1 - blocks_of bytes ≡ 0 = omega arith in
    ap (λ (n : ℕ). find (is_free_run patches (blocks_of bytes)) (range_with_len 0 n)) none
