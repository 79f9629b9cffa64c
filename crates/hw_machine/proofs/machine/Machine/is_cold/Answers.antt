use Rattle.std.proofs.Common.{◌≡◌, ◌<◌, false, sym, arith}
use Rattle.machine_steps.specs.Hardware.{is_cold}
use Rattle.hw_machine.specs.Machine.{setting_of, hardware_of}
use Rattle.hw_machine.proofs.Cold.{all_cold_is, all_cold_is_not}
use Rattle.hw_machine.proofs.machine.Machine.is_cold.Goals as goal

pub returns-then-not-is_cold : goal.returns-then-not-is_cold
returns-then-not-is_cold c =
    let below : c.loop-t.t < (setting_of c.args.self.now).threads = omega arith in
    let same : (setting_of c.args.self.now).group c.loop-t.t ≡ c.args.g = cc in
    let other : is_cold ((hardware_of c.args.self.now).thread c.loop-t.t) ≡ false = cc in
    sym (all_cold_is_not _ (hardware_of c.args.self.now) c.args.g c.loop-t.t below same other)

pub returns : goal.returns
returns c = sym (all_cold_is _ (hardware_of c.args.self.now) c.args.g (λ t lt. c.loop-t.invariant t (omega (arith, lt))))
