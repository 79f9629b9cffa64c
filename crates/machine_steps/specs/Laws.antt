-- What holds of every call of a machine.
use Rattle.std.specs.Prelude.{◌≡◌, ◌≢◌, ℕ, ◌≤◌, Bool, true, List, Ok, Err}
use Rattle.machine_steps.specs.declared.states.ThreadState.TheVariants.{Up}
use Rattle.machine_steps.specs.declared.answers.HotAnswer.{HotAnswer}
use Rattle.machine_steps.specs.Hardware.{Setting, Hardware, is_on, with_thread, with_refusal, with_rev}
use Rattle.machine_steps.specs.Calls as calls
use Rattle.machine_steps.specs.BringUps.{CachedPatches, bring_up_each}

-- the calls that can change a machine, and what they are told
pub data Call : Type 0 where
  PowerOn : Call
  SoftOffline : ℕ → Call
  ComeUp : ℕ → Call
  SetRefuse : ℕ → Bool → Call
  SetRev : ℕ → ℕ → Call
  Suspend : Call
  Wake : Call

abbrev pub row_of : Setting → Hardware → Call → calls.Row
row_of setting hardware PowerOn = calls.power_on hardware
row_of setting hardware (SoftOffline t) = calls.soft_offline hardware t
row_of setting hardware (ComeUp t) = Ok (with_thread hardware t Up)
row_of setting hardware (SetRefuse g on) = Ok (with_refusal hardware g on)
row_of setting hardware (SetRev g rev) = Ok (with_rev hardware g rev)
row_of setting hardware Suspend = calls.suspend setting hardware
row_of setting hardware Wake = calls.wake hardware

-- a revision may be set where power is on, to one that is not below the present one
abbrev pub MayCall : Hardware → Call → Type 0
MayCall hardware (SetRev g rev) = (is_on hardware.power ≡ true) × (hardware.rev g ≤ rev)
MayCall hardware call = Unit {0}

-- the revision of no group falls
abbrev pub NeverLower : Hardware → Hardware → Type 0
NeverLower old new = (g : ℕ) → old.rev g ≤ new.rev g

abbrev pub CallsNeverLower : Type 0
CallsNeverLower =
    (setting : Setting) (old new : Hardware) (call : Call) → call ≢ Suspend → MayCall old call →
    row_of setting old call ≡ Ok new → NeverLower old new

abbrev pub BringUpsNeverLower : Type 0
BringUpsNeverLower =
    (setting : Setting) (patches : CachedPatches) (hardware : Hardware) (threads : List ℕ) →
    NeverLower hardware (bring_up_each setting patches hardware threads).after

-- a suspend lets every revision fall to the firmware's
abbrev pub SuspendsLower : Type 0
SuspendsLower =
    (setting : Setting) (old new : Hardware) →
    row_of setting old Suspend ≡ Ok new → (g : ℕ) → new.rev g ≡ setting.bios g

-- what a call answers goes by its row, and where it is refused nothing has changed
abbrev pub RefusalsKeep : Type 0
RefusalsKeep =
    (setting : Setting) (old new : Hardware) (call : Call) (answer : HotAnswer) →
    calls.Answers (row_of setting old call) old new (Err answer) → new ≡ old
