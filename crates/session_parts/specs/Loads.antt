-- The steps of a load.
use Rattle.std.specs.Prelude.{◌≡◌, ℕ, ◌==◌, nat_lt, Bool, if◌then◌else◌, List, length, slice_index, Option, Some, None}
use Rattle.std.specs.Prelude.{Ok}
use Rattle.entry_model.specs.declared.facts.CoreFacts.{CoreFacts}
use Rattle.entry_model.specs.Entry.{Entry}
use Rattle.region_steps.specs.Region.{Patches}
use Rattle.patch_pool.specs.declared.pool.PatchId.{PatchId}
use Rattle.machine_steps.specs.Hardware.{Hardware}
use Rattle.machine_steps.specs.Puts.{Puts, first_of}
use Rattle.early_load.specs.Caches.{place_at, HoldsPatch}
use Rattle.early_load.specs.Puts.{without}
use Rattle.rendezvous_steps.specs.Plan.{Plan}
use Rattle.session_steps.specs.State.{Setting, State}
use Rattle.session_steps.specs.Offers.{offer_of}
use Rattle.session_parts.specs.Boots.{puts_of}

-- the cores of a group, where it takes part
abbrev pub core_where : Bool → CoreFacts → Option CoreFacts
core_where part core = if part then Some core else None

-- where the patch of each group's offer begins
pub record ArePlaces (puts : Puts) (offers : List (Option ℕ)) (places : List (Option PatchId)) : Type 0 where
  pub groups : length places ≡ length offers
  pub place : (g : ℕ) → place_at places g ≡ first_of puts (offer_of offers g)

-- the region holds the patches at these places, with their revision words
abbrev pub PlacesHeld : Patches → List (Option PatchId) → Type 0
PlacesHeld patches places = (g first : ℕ) → place_at places g ≡ Some first → HoldsPatch (patches first)

abbrev pub with_patches : State → Patches → State
with_patches state patches = record state { patches = patches }

-- Each offer was put into the region, and nothing else changed; without what was put the region is as before.
pub record IsPut (setting : Setting) (entries : List Entry) (offers : List (Option ℕ)) (old new : State)
    (places : List (Option PatchId)) : Type 0 where
  pub puts : Puts
  pub put : puts_of setting old entries offers ≡ Ok puts
  pub after : new ≡ with_patches old puts.patches
  pub places_are : ArePlaces puts offers places
  pub held : PlacesHeld new.patches places
  pub back : without places new.patches ≡ old.patches

-- The steps that a load ends with.

-- a table of which so many places are new
abbrev pub mixed : {A : Type 0} → (ℕ → A) → (ℕ → A) → ℕ → ℕ → A
mixed new old places = λ k. if nat_lt k places then new k else old k

-- the revisions of so many groups are those of the list
abbrev pub with_revisions : Hardware → List ℕ → ℕ → Hardware
with_revisions hardware revs groups = record hardware { rev = mixed (slice_index revs) hardware.rev groups }

-- the new patch of a group whose revision is now its offer
abbrev pub written_place : Option ℕ → ℕ → Option ℕ → Option ℕ
written_place None rev place = None
written_place (Some offer) rev place = if offer == rev then place else None

abbrev pub new_or_old : Option ℕ → Option ℕ → Option ℕ
new_or_old None old = old
new_or_old (Some new) old = Some new

-- what so many groups cache after that
abbrev pub kept_by_plan : Plan → List (Option PatchId) → List ℕ → (ℕ → Option ℕ) → ℕ → ℕ → Option ℕ
kept_by_plan plan places revs cached groups =
    mixed (λ g. new_or_old (written_place (plan.offer g) (slice_index revs g) (place_at places g)) (cached g)) cached
    groups
