-- The groups none of whose threads was up when the machine was suspended.
use Rattle.std.specs.Prelude.{◌≡◌, ◌≢◌, ℕ, ◌<◌, Bool, true, false, List, ◌∷◌}
use Rattle.std.specs.List.{All}
use Rattle.uc_topology.specs.Stated.{IsPartition}
use Rattle.machine_steps.specs.declared.states.ThreadState.TheVariants.{Up}
use Rattle.machine_steps.specs.Hardware.{all_cold}
use Rattle.script_text.specs.declared.command.Command.{Command}
use Rattle.script_text.specs.declared.command.Command.TheVariants as command
use Rattle.session_text.specs.declared.answers.CommandAnswer.TheVariants.{Done}
use Rattle.session_steps.specs.State.{Setting, State, machine_of, cached_patches}
use Rattle.session_steps.specs.Did.{Did}
use Rattle.session_steps.specs.Step.{SessionStep}
use Rattle.session_laws.specs.Standing.{InRange}
use Rattle.cut_laws.specs.SoFar.{StepsTo}
use Rattle.sleep_laws.specs.PowerUp.{at_power_up}
use Rattle.sleep_laws.specs.Sleep.{Resumes}

-- no thread of the group was up
abbrev pub NoneUp : Setting → State → ℕ → Type 0
NoneUp setting before g = (t : ℕ) → before.hardware.thread t ≡ Up → (machine_of setting).group t ≢ g

-- the group is cold, at the firmware's revision, and still caches what it cached
pub record IsCold (setting : Setting) (before now : State) (g : ℕ) : Type 0 where
  pub cold : all_cold (machine_of setting) now.hardware g ≡ true
  pub rev : now.hardware.rev g ≡ (machine_of setting).bios g
  pub caches : cached_patches now g ≡ cached_patches before g

-- the command is an `online` of a thread of the group, and was done
abbrev pub Warms : Setting → ℕ → Command → Did → Type 0
Warms setting g (command.Online t) did = ((machine_of setting).group t ≡ g) × (did.answer ≡ Done)
Warms setting g one did = ⊥

abbrev pub NoneWarms : Setting → ℕ → List Command → List Did → Type 0
NoneWarms setting g (one ∷ commands) (did ∷ dids) = (Warms setting g one did → ⊥) × NoneWarms setting g commands dids
NoneWarms setting g commands dids = Unit {0}

-- what the `online` that ends it makes of the group: its revision at a power-up, with the patch that it cached before
-- the suspend; or the firmware's still, where it refuses the write at that moment
pub record Warmed (setting : Setting) (before now after : State) (g : ℕ) : Type 0 where
  pub came_to : now.hardware.refuses g ≡ false → after.hardware.rev g ≡ at_power_up setting before g
  pub stayed : now.hardware.refuses g ≡ true → after.hardware.rev g ≡ (machine_of setting).bios g

-- Whatever commands follow a resume, further suspends among them, such a group stays cold until an `online` of one of
-- its threads is done, which warms it.
abbrev pub ColdGroupsCatchUp : Type 0
ColdGroupsCatchUp =
    (lists : Bool) (setting : Setting) (before asleep : State) (did : Did) (g : ℕ) (later : List Command)
    (later_dids : List Did) (now : State) →
    IsPartition setting.machine.stated →
    Resumes lists setting before asleep did →
    g < (machine_of setting).groups →
    NoneUp setting before g →
    All (λ one. InRange setting one) later →
    StepsTo lists setting did.after later later_dids now →
    NoneWarms setting g later later_dids →
    IsCold setting before now g
    × ((t : ℕ) (warmed : Did) →
    SessionStep lists setting now (command.Online t) warmed →
    Warms setting g (command.Online t) warmed → Warmed setting before now warmed.after g)
