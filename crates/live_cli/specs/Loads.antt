-- What a load comes to whose rendezvous lists nothing.
use Rattle.std.specs.Prelude.{◌≡◌, ℕ, Bool, true, false, List, Some}
use Rattle.tool_text.specs.rendezvous_steps.declared.ends.Beat.{Beat}
use Rattle.tool_text.specs.rendezvous_rule.Runs.{RunOf}
use Rattle.play_laws.specs.Patient.{NoneRefuses}
use Rattle.script_text.specs.declared.command.Command.TheVariants.{Load}
use Rattle.session_text.specs.declared.answers.CommandAnswer.{CommandAnswer}
use Rattle.session_text.specs.declared.answers.CommandAnswer.TheVariants as answers
use Rattle.session_text.specs.declared.answers.LoadAnswer.TheVariants as load
use Rattle.tool_text.specs.session_steps.State.{Setting, State}
use Rattle.tool_text.specs.session_steps.Did.{Did}
use Rattle.tool_text.specs.session_steps.Step.{SessionStep}

-- A load that came to a rendezvous in which no thread gave up on others is done, where no group with an offer refuses.
abbrev pub LoadsInTime : Type 0
LoadsInTime =
    (setting : Setting) (state : State) (force : Bool) (names : List (List ℕ)) (beats : List Beat) (did : Did)
    (run : RunOf) →
    SessionStep false setting state (Load force names beats) did →
    did.ran ≡ Some run → run.late ≡ false → NoneRefuses run.plan → did.answer ≡ answers.Done

-- a thread halted, or one gave up on others
abbrev pub tells_of_patience : CommandAnswer → Bool
tells_of_patience (answers.Load (load.Panicked t)) = true
tells_of_patience (answers.Load (load.OfflineSilent kicks)) = true
tells_of_patience (answers.Load (load.TimedOut t)) = true
tells_of_patience answer = false

-- a rendezvous that was held, in which a thread gave up on others
pub record WasLate (did : Did) : Type 0 where
  pub run : RunOf
  pub ran : did.ran ≡ Some run
  pub late : run.late ≡ true

-- A load says so only where its rendezvous was late.
abbrev pub LateLoads : Type 0
LateLoads =
    (setting : Setting) (state : State) (force : Bool) (names : List (List ℕ)) (beats : List Beat) (did : Did) →
    SessionStep false setting state (Load force names beats) did →
    tells_of_patience did.answer ≡ true → WasLate did
