use Rattle.std.proofs.Common.{◌≡◌, ◌<◌, false, sym, arith}
use Rattle.machine_steps.specs.Hardware.{is_cold}
use Rattle.session_steps.specs.State.{machine_of, core_of}
use Rattle.session_parts.specs.Parts.{setting_of, state_of}
use Rattle.session_parts.proofs.Present.{a_part, no_part}
use Rattle.session_parts.proofs.parts.Parts.core_takes_part.Goals as goal

pub returns-then-not-is_cold : goal.returns-then-not-is_cold
returns-then-not-is_cold c =
    let setting = setting_of c.args.self.now in
    let state = state_of c.args.self.now in
    let below : c.threads.t < (machine_of setting).threads =
    omega (arith, c.threads-test.true, c.threads-t-end.ensures.value) in
    let same : core_of setting c.threads.t ≡ c.args.core = cc in
    let warm : is_cold (state.hardware.thread c.threads.t) ≡ false = cc in
    sym (a_part setting state c.args.core c.threads.t below same warm)

pub returns : goal.returns
returns c =
    sym (no_part (setting_of c.args.self.now) (state_of c.args.self.now) c.args.core
    (λ t below. c.threads.invariant t (omega (arith, below, c.threads-test.false, c.threads-t-end.ensures.value))))
