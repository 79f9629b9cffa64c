-- Whom a load wants to be up: the two halves of the definition.
use Rattle.std.specs.Prelude.{ℕ, Bool, ◌==◌, ◌&&◌}
use Rattle.uc_topology.specs.Stated.{lead, primary}
use Rattle.session_steps.specs.State.{Setting, State, machine_of, core_of, takes_part, core_takes_part}

-- the primary of a group that takes part
abbrev pub is_primary : Setting → State → ℕ → Bool
is_primary setting state t =
    (t == primary setting.machine.stated ((machine_of setting).group t)) && takes_part setting state
    ((machine_of setting).group t)

-- the lowest thread of a core that does
abbrev pub is_lead : Setting → State → ℕ → Bool
is_lead setting state t =
    (t == lead setting.machine.stated (core_of setting t)) && core_takes_part setting state (core_of setting t)
