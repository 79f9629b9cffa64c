-- What a group comes to when power is switched on, and that it never runs more than that.
use Rattle.std.specs.Prelude.{ℕ, ◌<◌, ◌≤◌, Bool, List, unwrap_or}
use Rattle.std.specs.List.{All}
use Rattle.uc_topology.specs.Stated.{IsPartition}
use Rattle.machine_steps.specs.BringUps.{above}
use Rattle.script_text.specs.declared.command.Command.{Command}
use Rattle.session_steps.specs.State.{Setting, State, machine_of, cached_patches, opening_state}
use Rattle.session_steps.specs.Did.{Did}
use Rattle.session_laws.specs.Standing.{InRange}
use Rattle.cut_laws.specs.SoFar.{StepsTo}

-- The revision of a group once its first thread came up after a power-up: that of the patch that it caches, where that
-- is above the firmware's, and else the firmware's.
abbrev pub at_power_up : Setting → State → ℕ → ℕ
at_power_up setting state g =
    unwrap_or (above ((machine_of setting).bios g) (cached_patches state g)) ((machine_of setting).bios g)

-- No group runs more: what it runs above the firmware's revision, its cached patch brings again.
abbrev pub IsBacked : Setting → State → Type 0
IsBacked setting state =
    (g : ℕ) → g < (machine_of setting).groups → state.hardware.rev g ≤ at_power_up setting state g

-- so it is in every state of a session
abbrev pub StatesAreBacked : Type 0
StatesAreBacked =
    (lists : Bool) (setting : Setting) (commands : List Command) (dids : List Did) (state : State) →
    IsPartition setting.machine.stated →
    All (λ one. InRange setting one) commands →
    StepsTo lists setting (opening_state setting) commands dids state → IsBacked setting state
