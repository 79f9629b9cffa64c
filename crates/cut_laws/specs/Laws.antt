-- A session that was cut short in one of its commands.
use Rattle.std.specs.Prelude.{◌≡◌, ℕ, Bool, List, ◌∷◌, ◌++◌}
use Rattle.std.specs.List.{All}
use Rattle.uc_topology.specs.Stated.{IsPartition}
use Rattle.read_model.specs.Reads.{AreHeld}
use Rattle.rendezvous_rule.specs.Runs.{AlwaysRuns}
use Rattle.rendezvous_steps.specs.ItemText.{item_line}
use Rattle.script_text.specs.declared.command.Command.{Command}
use Rattle.session_steps.specs.State.{Setting, State, opening_state}
use Rattle.session_steps.specs.Did.{Did}
use Rattle.session_steps.specs.Step.{SessionStep}
use Rattle.session_steps.specs.Session.{Steps, all_reads, session_answer}
use Rattle.session_steps.specs.Played.{is_read_fault}
use Rattle.session_steps.specs.Whole.{is_unread}
use Rattle.session_laws.specs.Standing.{InRange}
use Rattle.cut_laws.specs.SoFar.{StepsTo}

-- a whole session that begins with what some commands did, of which the last may have ended it
pub record GoesOn (lists : Bool) (setting : Setting) (commands : List Command) (dids : List Did) (last : Did)
    (holds : List ℕ → List ℕ) : Type 0 where
  pub more : List Did
  pub steps : Steps lists setting commands (dids ++ last ∷ more)
  pub held : AreHeld holds (all_reads more)
  -- the commands behind the last leave no file unread
  pub unread : is_unread (session_answer (dids ++ last ∷ more)) ≡ is_read_fault last.answer

-- whatever the files hold, done commands and a begun one go on to a whole session, where every sound plan has a run
abbrev pub BegunGoesOn : Type 0
BegunGoesOn =
    (lists : Bool) (setting : Setting) (done rest : List Command) (one : Command) (dids : List Did) (state : State)
    (did : Did) (holds : List ℕ → List ℕ) →
    AlwaysRuns item_line lists →
    IsPartition setting.machine.stated →
    All (λ other. InRange setting other) (done ++ one ∷ rest) →
    StepsTo lists setting (opening_state setting) done dids state →
    SessionStep lists setting state one did →
    GoesOn lists setting (done ++ one ∷ rest) dids did holds
