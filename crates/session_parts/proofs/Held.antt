-- In a state that stands the region holds the patch that each group caches.
use Rattle.std.proofs.Common.{◌≡◌, ℕ, ◌<◌, List, Option, None, Some, refl, ap, sym, ◌∙◌, subst}
use Rattle.region_steps.specs.Region.{Patches}
use Rattle.machine_steps.specs.Hardware.{Setting}
use Rattle.patch_pool.specs.Pool.{patches_of}
use Rattle.early_load.specs.Caches.{groups_of, cached_of, CachesHold, HoldsPatch}
use Rattle.session_laws.specs.Standing.{Standing, PatchesStand}
use Rattle.session_parts.specs.declared.parts.Parts.{Parts}
use Rattle.session_parts.specs.Parts.{setting_of, state_of}

-- a patch that is there has its revision word
held_where : (groups : ℕ) (patches : Patches) (cached : ℕ → Option ℕ) → PatchesStand groups patches cached →
    (g first : ℕ) → g < groups → cached g ≡ Some first → (patch : Option (List ℕ)) → patches first ≡ patch → HoldsPatch patch
held_where groups patches cached stand g first within is None none = absurd (stand.stand g first within is none)
held_where groups patches cached stand g first within is (Some bytes) some = stand.whole first bytes some

are_held : (groups : ℕ) (patches : Patches) (cached : ℕ → Option ℕ) → PatchesStand groups patches cached →
    CachesHold groups patches cached
are_held groups patches cached stand g first within is =
    held_where groups patches cached stand g first within is (patches first) refl

pub held_of : (parts : Parts) → Standing (setting_of parts) (state_of parts) →
    CachesHold (groups_of parts.cache) (patches_of parts.pool) (cached_of parts.cache)
held_of parts standing =
    subst (λ (groups : ℕ). CachesHold groups (patches_of parts.pool) (cached_of parts.cache))
    (sym (parts.groups ∙ ap (λ (s : Setting). s.groups) parts.states))
    (are_held _ (patches_of parts.pool) (cached_of parts.cache) standing.patches)
