use Rattle.std.proofs.Common.{◌≡◌, [], Result, Ok, sym, ◌∙◌, ap, subst}
use Rattle.machine_steps.specs.declared.answers.HotAnswer.{HotAnswer}
use Rattle.machine_steps.specs.Hardware.{Setting, Hardware}
use Rattle.machine_steps.specs.BringUps.{Brought, bring_up, and_then}
use Rattle.hw_machine.specs.Machine.{hardware_of}
use Rattle.session_steps.specs.State.{machine_of, cached_patches}
use Rattle.session_steps.specs.Step.{online_from}
use Rattle.session_parts.specs.Parts.{setting_of, state_of}
use Rattle.session_parts.proofs.parts.Parts.bring_online.Goals as goal

-- the machine is the one that the topology states
pub returns-clause-answer : goal.returns-clause-answer
returns-clause-answer c =
    let brought : record { up = c.bring_up.result; after = hardware_of c.bring_up.new.machine } ≡ bring_up (machine_of (setting_of c.args.self.now)) (cached_patches (state_of c.args.self.now)) (hardware_of c.args.self.now.machine) c.args.t =
    subst (λ (s : Setting). record { up = c.bring_up.result; after = hardware_of c.bring_up.new.machine } ≡ bring_up s (cached_patches (state_of c.args.self.now)) (hardware_of c.args.self.now.machine) c.args.t) c.args.self.now.states c.bring_up.ensures.brought in
    ap (λ (row : Result Hardware HotAnswer). online_from (setting_of c.args.self.now) (state_of c.args.self.now) c.args.t row) c.in_ok-may_come_up.ensures
    ∙ sym (ap (λ (first : Brought). Ok (and_then first (record { ups = []; after = first.after }))) brought)
