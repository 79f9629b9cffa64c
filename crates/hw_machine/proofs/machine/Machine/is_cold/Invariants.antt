use Rattle.std.proofs.Common.{◌≡◌, ℕ, ◌<◌, true}
use Rattle.machine_steps.specs.Hardware.{is_cold}
use Rattle.hw_machine.specs.Machine.{setting_of, hardware_of}
use Rattle.hw_machine.proofs.machine.Machine.is_cold.Given as goal

-- the threads of the group so far are cold
abbrev pub invariant-loop-t : goal.invariant-loop-t
invariant-loop-t l =
    (t : ℕ) → t < l.t → (setting_of l.self).group t ≡ l.g → is_cold ((hardware_of l.self).thread t) ≡ true
