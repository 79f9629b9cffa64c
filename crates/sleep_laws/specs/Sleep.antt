-- A machine that is suspended and, some commands later, resumed.
use Rattle.std.specs.Prelude.{◌≡◌, ◌≢◌, ℕ, ◌≤◌, Bool, true, false, ◌&&◌, List, is_some}
use Rattle.std.specs.List.{All}
use Rattle.uc_topology.specs.Stated.{IsPartition}
use Rattle.machine_steps.specs.declared.states.ThreadState.TheVariants.{Up}
use Rattle.machine_steps.specs.Hardware.{suspended}
use Rattle.machine_steps.specs.BringUps.{above}
use Rattle.script_text.specs.declared.command.Command.{Command}
use Rattle.script_text.specs.declared.command.Command.TheVariants as command
use Rattle.session_text.specs.declared.answers.CommandAnswer.TheVariants.{Done}
use Rattle.session_steps.specs.State.{Setting, State, machine_of, cached_patches, opening_state}
use Rattle.session_steps.specs.Did.{Did}
use Rattle.session_steps.specs.Step.{SessionStep}
use Rattle.session_laws.specs.Standing.{Standing, InRange}
use Rattle.cut_laws.specs.SoFar.{StepsTo}
use Rattle.sleep_laws.specs.PowerUp.{at_power_up}

-- ---- while it sleeps

-- the state that a suspend makes of another, but for the groups that refuse
abbrev pub asleep_since : Setting → State → (ℕ → Bool) → State
asleep_since setting before refuses = record before {
  hardware = record (suspended (machine_of setting) before.hardware) { refuses = refuses };
}

abbrev pub SleepsSince : Setting → State → State → Type 0
SleepsSince setting before now = now ≡ asleep_since setting before now.hardware.refuses

-- a suspend that is done puts the machine to sleep
abbrev pub SuspendsSleep : Type 0
SuspendsSleep =
    (lists : Bool) (setting : Setting) (before : State) (did : Did) →
    SessionStep lists setting before command.Suspend did → did.answer ≡ Done → SleepsSince setting before did.after

-- and it sleeps on, whatever the command, until a resume
abbrev pub SleepGoesOn : Type 0
SleepGoesOn =
    (lists : Bool) (setting : Setting) (before now : State) (one : Command) (did : Did) →
    Standing setting now →
    SleepsSince setting before now →
    one ≢ command.Resume → SessionStep lists setting now one did → SleepsSince setting before did.after

-- ---- over a session

-- Commands of a session led to a state, in which a suspend was done; others followed, none of them a resume; and then a
-- resume did this.
pub record Resumes (lists : Bool) (setting : Setting) (before asleep : State) (did : Did) : Type 0 where
  pub earlier : List Command
  pub earlier_dids : List Did
  pub came : StepsTo lists setting (opening_state setting) earlier earlier_dids before
  pub suspending : Did
  pub suspend : SessionStep lists setting before command.Suspend suspending
  pub is_done : suspending.answer ≡ Done
  pub between : List Command
  pub between_dids : List Did
  pub none_resumes : All (λ one. one ≢ command.Resume) between
  pub slept : StepsTo lists setting suspending.after between between_dids asleep
  pub resume : SessionStep lists setting asleep command.Resume did
  pub earlier_in_range : All (λ one. InRange setting one) earlier
  pub between_in_range : All (λ one. InRange setting one) between

-- the group refuses the patch that it is to write when its first thread comes up
abbrev pub refuses_patch : Setting → State → ℕ → Bool
refuses_patch setting asleep g =
    asleep.hardware.refuses g && is_some (above ((machine_of setting).bios g) (cached_patches asleep g))

-- what a resume brings back of a thread that was up
pub record BroughtBack (setting : Setting) (before asleep after : State) (t : ℕ) : Type 0 where
  pub is_up : after.hardware.thread t ≡ Up
  -- its group comes to its revision at a power-up, where it refuses no write
  pub came_to :
      refuses_patch setting asleep ((machine_of setting).group t) ≡ false →
      after.hardware.rev ((machine_of setting).group t) ≡ at_power_up setting before ((machine_of setting).group t)
  -- one that refuses the write stays at the firmware's revision
  pub stayed :
      refuses_patch setting asleep ((machine_of setting).group t) ≡ true →
      after.hardware.rev ((machine_of setting).group t) ≡ (machine_of setting).bios ((machine_of setting).group t)
  -- where it refuses none it has at least the revision that it had
  pub no_lower :
      refuses_patch setting asleep ((machine_of setting).group t) ≡ false →
      before.hardware.rev ((machine_of setting).group t) ≤ after.hardware.rev ((machine_of setting).group t)

-- Over a session, a resume is done, and brings back every thread that was up before the suspend.
abbrev pub ResumesBringBack : Type 0
ResumesBringBack =
    (lists : Bool) (setting : Setting) (before asleep : State) (did : Did) →
    IsPartition setting.machine.stated →
    Resumes lists setting before asleep did →
    (did.answer ≡ Done)
    × ((t : ℕ) → before.hardware.thread t ≡ Up → BroughtBack setting before asleep did.after t)
