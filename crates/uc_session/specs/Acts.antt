-- What a command did in which no rendezvous ran.
use Rattle.std.specs.Prelude.{ℕ, Bool, List, [], None}
use Rattle.session_steps.specs.read_model.Reads.{Read}
use Rattle.session_steps.specs.script_text.declared.command.Command.{Command}
use Rattle.session_steps.specs.script_text.declared.command.Command.TheVariants as command
use Rattle.session_steps.specs.State.{Setting, State}
use Rattle.session_steps.specs.Did.{Did, ups_text}
use Rattle.session_steps.specs.Step.{SessionStep}
use Rattle.session_steps.specs.Played.{FileCause, is_read_fault}
use Rattle.uc_session.specs.declared.acted.Acted.{Acted}

-- it reads no file
abbrev pub ReadsNoFile : Command → Type 0
ReadsNoFile (command.Boot names) = ⊥
ReadsNoFile (command.Load force names beats) = ⊥
ReadsNoFile one = Unit {0}

-- by the files that were read: nothing is shown before the state changes, and the threads that came up are told after
-- it
abbrev pub did_by : List Read → Acted → State → Did
did_by reads acted after = record {
  reads = reads;
  shown = [];
  told = ups_text acted.ups.items;
  answer = acted.answer;
  after = after;
  ran = None;
}

-- what a part of a command that writes nothing finds or leaves: the session's state, and the files' count of faults
pub record Stage : Type 0 where
  pub state : State
  pub files : ℕ

-- the command did this: a file is unread exactly where the files' count rose
pub record Acts (held : List Read → Type 0) (setting : Setting) (one : Command) (before now : Stage)
    (acted : Acted) : Type 0 where
  pub reads : List Read
  pub is_held : held reads
  pub step : (lists : Bool) → SessionStep lists setting before.state one (did_by reads acted now.state)
  pub cause : FileCause (is_read_fault acted.answer) before.files now.files
