-- What stands in every state of a session: of threads, of the region's patches, and of a machine that is off.
use Rattle.std.specs.Prelude.{◌≡◌, ◌≢◌, ℕ, ◌<◌, ◌≤◌, Bool, true, false, List, length, All, Option, Some, None}
use Rattle.uc_topology.specs.Stated.{IsPartition}
use Rattle.region_steps.specs.Region.{Patches}
use Rattle.machine_steps.specs.declared.states.Power.{Power}
use Rattle.machine_steps.specs.declared.states.ThreadState.{ThreadState}
use Rattle.machine_steps.specs.declared.states.ThreadState.TheVariants.{Cold, Up}
use Rattle.machine_steps.specs.Hardware.{is_off, is_on, is_asleep}
use Rattle.machine_steps.specs.Puts.{is_cached}
use Rattle.script_text.specs.declared.command.Command.{Command}
use Rattle.script_text.specs.declared.command.Command.TheVariants as command
use Rattle.session_steps.specs.State.{Setting, State, machine_of, opening_state}
use Rattle.session_steps.specs.Did.{Did}
use Rattle.session_steps.specs.Step.{SessionStep}
use Rattle.session_steps.specs.Session.{Steps}

-- Where power is on, thread 0 is up; else all threads are cold, and where the machine sleeps, thread 0 comes up at its
-- resume. There is no thread past the table.
pub record ThreadsStand (threads : ℕ) (power : Power) (thread : ℕ → ThreadState) (remembered : ℕ → Bool) : Type 0 where
  pub first_is_up : is_on power ≡ true → thread 0 ≡ Up
  pub all_are_cold : is_on power ≡ false → (t : ℕ) → thread t ≡ Cold
  pub is_remembered : is_asleep power ≡ true → remembered 0 ≡ true
  pub past : (t : ℕ) → threads ≤ t → thread t ≡ Cold

-- Each patch has the 8 bytes to which its revision reaches, and the region holds just the patches that groups cache.
pub record PatchesStand (groups : ℕ) (patches : Patches) (cached : ℕ → Option ℕ) : Type 0 where
  pub whole : (block : ℕ) (bytes : List ℕ) → patches block ≡ Some bytes → 8 ≤ length bytes
  pub stand : (g block : ℕ) → g < groups → cached g ≡ Some block → patches block ≢ None
  pub only : (block : ℕ) → patches block ≢ None → is_cached groups cached block ≡ true

pub record Standing (setting : Setting) (state : State) : Type 0 where
  pub threads :
      ThreadsStand (machine_of setting).threads state.hardware.power state.hardware.thread state.hardware.remembered
  pub patches : PatchesStand (machine_of setting).groups state.patches state.cached
  pub off_is_empty : is_off state.hardware.power ≡ true → (block : ℕ) → state.patches block ≡ None

-- the threads and cores that a command names are there, and it has at most 16 names of files
abbrev pub InRange : Setting → Command → Type 0
InRange setting (command.Boot names) = length names ≤ 16
InRange setting (command.Online t) = t < (machine_of setting).threads
InRange setting (command.Offline t) = t < (machine_of setting).threads
InRange setting command.Suspend = Unit {0}
InRange setting command.Resume = Unit {0}
InRange setting (command.Refuse core) = core < length setting.machine.stated.cores
InRange setting (command.Accept core) = core < length setting.machine.stated.cores
InRange setting (command.Load force names beats) = length names ≤ 16

abbrev pub OpeningStands : Type 0
OpeningStands = (setting : Setting) → Standing setting (opening_state setting)

-- each command leads from a state that stands to one that does
abbrev pub StepsStand : Type 0
StepsStand =
    (lists : Bool) (setting : Setting) (state : State) (one : Command) (did : Did) →
    IsPartition setting.machine.stated →
    Standing setting state → InRange setting one → SessionStep lists setting state one did → Standing setting did.after

-- what each command of a session leaves, from the opening state on, stands
abbrev pub SessionsStand : Type 0
SessionsStand =
    (lists : Bool) (setting : Setting) (commands : List Command) (dids : List Did) →
    IsPartition setting.machine.stated →
    All (λ one. InRange setting one) commands →
    Steps lists setting commands dids → All (λ did. Standing setting did.after) dids
