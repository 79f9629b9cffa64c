-- The machine that a session plays on, and the state that it is in between two commands.
use Rattle.std.specs.Prelude.{ℕ, Bool, not, ◌==◌, ◌&&◌, ◌||◌, List, Option, None, find, slice_index}
use Rattle.std.specs.List.{list_any}
use Rattle.uc_topology.specs.Stated.{Machine, lead, primary}
use Rattle.region_steps.specs.Region.{Patches, no_patches}
use Rattle.machine_steps.specs.Hardware as hardware
use Rattle.machine_steps.specs.Hardware.{Hardware, is_cold, is_up, all_cold, threads_of, setting_of, switched_off}
use Rattle.machine_steps.specs.Puts.{patch_at}

-- what never changes: the machine that the topology states, the blocks of the region, and how many polls a thread waits
pub record Setting : Type 0 where
  pub machine : Machine
  pub blocks : ℕ
  pub patience : ℕ

-- the machine's state, the patches in the region by the block at which they begin, and where the patch begins that a
-- group caches
pub record State : Type 0 where
  pub hardware : Hardware
  pub patches : Patches
  pub cached : ℕ → Option ℕ

abbrev pub machine_of : Setting → hardware.Setting
machine_of setting = setting_of setting.machine.stated

-- before the first command the machine is switched off, and the region is empty
abbrev pub opening_state : Setting → State
opening_state setting = record {
  hardware = switched_off (machine_of setting);
  patches = no_patches;
  cached = λ g. None;
}

-- the bytes of the patch that each group caches
abbrev pub cached_patches : State → ℕ → Option (List ℕ)
cached_patches state g = patch_at state.patches (state.cached g)

-- Who takes part in a load: the groups and the cores that have a thread which was up since power-up.

abbrev pub takes_part : Setting → State → ℕ → Bool
takes_part setting state g = not (all_cold (machine_of setting) state.hardware g)

abbrev pub core_of : Setting → ℕ → ℕ
core_of setting t = slice_index setting.machine.stated.threads t

unfoldable pub core_takes_part : Setting → State → ℕ → Bool
core_takes_part setting state core =
    list_any (λ t. (core_of setting t == core) && not (is_cold (state.hardware.thread t)))
    (threads_of (machine_of setting))

-- A load wants the primary of each group that takes part to be up, and the lowest thread of each core that does.

abbrev pub is_needed : Setting → State → ℕ → Bool
is_needed setting state t =
    ((t == primary setting.machine.stated ((machine_of setting).group t))
    && takes_part setting state ((machine_of setting).group t))
    || ((t == lead setting.machine.stated (core_of setting t)) && core_takes_part setting state (core_of setting t))

abbrev pub is_missing : Setting → State → ℕ → Bool
is_missing setting state t = is_needed setting state t && not (is_up (state.hardware.thread t))

unfoldable pub first_missing : Setting → State → Option ℕ
first_missing setting state = find (is_missing setting state) (threads_of (machine_of setting))
