use Rattle.std.proofs.Common.{◌≡◌, Ok, Err, MatchResult, subst}
use Rattle.machine_steps.specs.Hardware.{Setting}
use Rattle.machine_steps.specs.BringUps.{resume}
use Rattle.hw_machine.specs.Machine.{hardware_of}
use Rattle.session_steps.specs.State.{cached_patches}
use Rattle.session_parts.specs.Parts.{state_of}
use Rattle.session_parts.proofs.parts.Parts.wake.Goals as goal

-- the machine is the one that the topology states
pub returns-clause-answer : goal.returns-clause-answer
returns-clause-answer c =
    subst
    (λ (s : Setting). MatchResult c.resume.result (λ ups. resume s (cached_patches (state_of c.args.self.now)) (hardware_of c.args.self.now.machine) ≡ Ok (record { ups = ups.items; after = hardware_of c.resume.new.machine }))
    (λ answer. (resume s (cached_patches (state_of c.args.self.now)) (hardware_of c.args.self.now.machine) ≡ Err answer) × (hardware_of c.resume.new.machine ≡ hardware_of c.args.self.now.machine)))
    c.args.self.now.states c.resume.ensures.answer
