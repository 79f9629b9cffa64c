-- The calls of a machine. A row has the refusals of a call in their order, each with its test, and then what the call
-- makes of the machine where none of them holds.
use Rattle.std.specs.Prelude.{◌≡◌, ℕ, Bool, true, false, not, ◌==◌, List, [], ◌∷◌, Result, Ok, Err}
use Rattle.machine_steps.specs.declared.states.Power.TheVariants.{On}
use Rattle.machine_steps.specs.declared.states.ThreadState.TheVariants.{Offline}
use Rattle.machine_steps.specs.declared.answers.HotAnswer.{HotAnswer}
use Rattle.machine_steps.specs.declared.answers.HotAnswer.TheVariants.{NotUp, IsUp, BootThread, PoweredDown, Booted}
use Rattle.machine_steps.specs.declared.answers.HotAnswer.TheVariants.{NotAsleep}
use Rattle.machine_steps.specs.Hardware.{Setting, Hardware, is_off, is_on, is_asleep, is_up, with_power, with_thread}
use Rattle.machine_steps.specs.Hardware.{suspended}

abbrev pub Row : Type 0
Row = Result Hardware HotAnswer

abbrev pub refuse_where : Bool → HotAnswer → Row → Row
refuse_where true answer otherwise = Err answer
refuse_where false answer otherwise = otherwise

-- the first refusal whose test holds, or the change
abbrev pub unless : List (Bool × HotAnswer) → Hardware → Row
unless [] after = Ok after
unless (refusal ∷ refusals) after = refuse_where refusal.0 refusal.1 (unless refusals after)

abbrev pub power_on : Hardware → Row
power_on hardware =
    unless ((not (is_off hardware.power), Booted) ∷ []) (with_power hardware On)

abbrev pub soft_offline : Hardware → ℕ → Row
soft_offline hardware t =
    unless
    ((not (is_on hardware.power), PoweredDown) ∷ (t == 0, BootThread) ∷ (not (is_up (hardware.thread t)), NotUp t) ∷ [])
    (with_thread hardware t Offline)

-- whether a thread may be brought up; it changes nothing
abbrev pub may_come_up : Hardware → ℕ → Row
may_come_up hardware t =
    unless
    ((not (is_on hardware.power), PoweredDown) ∷ (is_up (hardware.thread t), IsUp t) ∷ [])
    hardware

abbrev pub suspend : Setting → Hardware → Row
suspend setting hardware =
    unless ((not (is_on hardware.power), PoweredDown) ∷ []) (suspended setting hardware)

abbrev pub wake : Hardware → Row
wake hardware =
    unless ((not (is_asleep hardware.power), NotAsleep) ∷ []) (with_power hardware On)

-- what a call by a row answers, and what it leaves: the row's machine where it is done, the old one where it is refused
abbrev pub Answers : Row → Hardware → Hardware → Result (Unit {0}) HotAnswer → Type 0
Answers row old new (Ok _) = row ≡ Ok new
Answers row old new (Err answer) = (row ≡ Err answer) × (new ≡ old)
