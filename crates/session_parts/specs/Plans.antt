-- The tables of a load's plan.
use Rattle.std.specs.Prelude.{◌≡◌, ℕ, Bool, List, map, Option, option_map}
use Rattle.std.specs.List.{range_with_len}
use Rattle.uc_topology.specs.Stated.{primary}
use Rattle.rendezvous_steps.specs.declared.steps.Kind.{Kind}
use Rattle.region_steps.specs.Region.{Patches}
use Rattle.patch_pool.specs.declared.pool.PatchId.{PatchId}
use Rattle.machine_steps.specs.BringUps.{revision}
use Rattle.machine_steps.specs.Puts.{patch_at}
use Rattle.early_load.specs.Caches.{place_at}
use Rattle.session_steps.specs.State.{Setting, State, machine_of}
use Rattle.session_steps.specs.Offers.{kind_of}

-- those of so many threads
pub record AreByThread (setting : Setting) (state : State) (threads : ℕ) (kinds : List Kind)
    (groups : List ℕ) : Type 0 where
  pub kinds_are : kinds ≡ map (λ t. kind_of (state.hardware.thread t)) (range_with_len 0 threads)
  pub groups_are : groups ≡ map (machine_of setting).group (range_with_len 0 threads)

-- those of so many groups
pub record AreByGroup (setting : Setting) (state : State) (groups : ℕ) (primaries : List ℕ) (refusals : List Bool)
    (revisions : List ℕ) : Type 0 where
  pub primaries_are : primaries ≡ map (primary setting.machine.stated) (range_with_len 0 groups)
  pub refusals_are : refusals ≡ map state.hardware.refuses (range_with_len 0 groups)
  pub revisions_are : revisions ≡ map state.hardware.rev (range_with_len 0 groups)

-- the revision of the patch at a group's place
abbrev pub revision_put : Patches → List (Option PatchId) → ℕ → Option ℕ
revision_put patches places g = option_map revision (patch_at patches (place_at places g))
