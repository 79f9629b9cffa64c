-- Commands of a session that were answered, none of which ended it.
use Rattle.std.specs.Prelude.{◌≡◌, Bool, false, List, [], ◌∷◌, ◌++◌}
use Rattle.uc_io.specs.Writing.{Grew}
use Rattle.script_text.specs.declared.command.Command.{Command}
use Rattle.session_steps.specs.State.{Setting, State, opening_state}
use Rattle.session_steps.specs.Did.{Did}
use Rattle.session_steps.specs.Step.{SessionStep}
use Rattle.session_steps.specs.Session.{ends_session, texts_from, all_reads, all_runs, all_done}
use Rattle.session_steps.specs.Calls.{Outside, Surroundings, Situation}

-- each command did this from the state that the one before it left, and did not end the session; the last left this one
abbrev pub StepsTo : Bool → Setting → State → List Command → List Did → State → Type 0
StepsTo lists setting state [] [] after = after ≡ state
StepsTo lists setting state (one ∷ commands) (did ∷ dids) after =
    SessionStep lists setting state one did
    × (ends_session did.answer ≡ false)
    × StepsTo lists setting did.after commands dids after
StepsTo lists setting state commands dids after = ⊥

-- the commands of a session so far: whether all were done, the state they left, and what was written, read and kept
pub record PlayedSoFar {D : Type 0} (outside : Outside D) (setting : Setting) (commands : List Command) (done : Bool)
    (before : Surroundings D) (now : Situation D) : Type 0 where
  pub dids : List Did
  pub steps : StepsTo outside.lists setting (opening_state setting) commands dids now.state
  pub held : outside.held (all_reads dids)
  pub is_done : done ≡ all_done dids
  pub grew : Grew outside.stands before.sink now.sink (texts_from 1 commands dids)
  -- every file was read
  pub no_fault : now.files ≡ before.files
  pub kept : outside.lists ≡ false → now.runs ≡ before.runs ++ all_runs dids
