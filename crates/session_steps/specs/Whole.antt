-- What a call that runs all commands of a script came to.
use Rattle.std.specs.Prelude.{◌≡◌, ℕ, Bool, true, false, IsTrue, List, ◌++◌}
use Rattle.uc_io.specs.Faults.{Rose}
use Rattle.uc_io.specs.Writing.{Grew}
use Rattle.status_rule.specs.Written.{IsFront}
use Rattle.read_model.specs.Reads.{Read}
use Rattle.script_text.specs.declared.command.Command.{Command}
use Rattle.session_text.specs.declared.answers.SessionAnswer.{SessionAnswer}
use Rattle.session_text.specs.declared.answers.SessionAnswer.TheVariants as session
use Rattle.session_steps.specs.State.{Setting}
use Rattle.session_steps.specs.Did.{Did}
use Rattle.session_steps.specs.Session.{Steps, texts_from, all_reads, all_runs, session_answer}
use Rattle.session_steps.specs.Calls.{Outside, Surroundings}
use Rattle.session_steps.specs.Played.{FileCause}

abbrev pub is_unread : SessionAnswer → Bool
is_unread session.ReadFault = true
is_unread answer = false

-- the counts of the sink's faults: a write fault exactly where it rose
abbrev pub SinkCauseAt : SessionAnswer → ℕ → ℕ → Type 0
SinkCauseAt session.WriteFault before now = Rose before now
SinkCauseAt answer before now = now ≡ before

-- commands that may have run, from the opening state on: what was read is what the files hold, where they tell
pub record MayPlay (lists : Bool) (held : List Read → Type 0) (setting : Setting) (commands : List Command)
    (dids : List Did) : Type 0 where
  pub steps : Steps lists setting commands dids
  pub is_held : held (all_reads dids)

-- each command was answered, up to the last or to one that ended the session, and its whole text was written
pub record PlaysWhole {D : Type 0} (outside : Outside D) (setting : Setting) (commands : List Command)
    (before now : Surroundings D) (answer : SessionAnswer) : Type 0 where
  pub dids : List Did
  pub may : MayPlay outside.lists outside.held setting commands dids
  pub is_answer : answer ≡ session_answer dids
  pub grew : Grew outside.stands before.sink now.sink (texts_from 1 commands dids)
  pub cause : FileCause (is_unread answer) before.files now.files
  pub kept : outside.lists ≡ false → now.runs ≡ before.runs ++ all_runs dids

-- a front of a session's text was written: one of an unread file only where the files' count rose
pub record PlaysFront {D : Type 0} (outside : Outside D) (setting : Setting) (commands : List Command)
    (before now : Surroundings D) : Type 0 where
  pub dids : List Did
  pub may : MayPlay outside.lists outside.held setting commands dids
  pub front : List ℕ
  pub is_front : IsFront front (texts_from 1 commands dids)
  pub grew : Grew outside.stands before.sink now.sink front
  pub by_fault : IsTrue (is_unread (session_answer dids)) → Rose before.files now.files

abbrev pub IsPlayedThrough : {D : Type 0} → Outside D → Setting → List Command → Surroundings D → Surroundings D →
    SessionAnswer → Type 0
IsPlayedThrough outside setting commands before now session.WriteFault =
    PlaysFront outside setting commands before now × Rose (outside.faults before.sink) (outside.faults now.sink)
IsPlayedThrough outside setting commands before now session.NoMemory = PlaysFront outside setting commands before now
IsPlayedThrough outside setting commands before now answer = PlaysWhole outside setting commands before now answer
