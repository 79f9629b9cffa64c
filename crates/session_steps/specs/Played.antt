-- What a call that runs one command of a session came to.
use Rattle.std.specs.Prelude.{◌≡◌, ◌⊎◌, ℕ, ◌<◌, Bool, true, false, IsTrue, List, [], ◌∷◌, ◌++◌, length, Option, Some}
use Rattle.std.specs.Prelude.{None}
use Rattle.uc_io.specs.Faults.{Rose}
use Rattle.uc_io.specs.Writing.{Grew}
use Rattle.status_rule.specs.Written.{IsFront}
use Rattle.read_model.specs.Reads.{Read}
use Rattle.rendezvous_rule.specs.Runs.{RunOf}
use Rattle.script_text.specs.declared.command.Command.{Command}
use Rattle.session_text.specs.declared.answers.CommandAnswer.{CommandAnswer}
use Rattle.session_text.specs.declared.answers.CommandAnswer.TheVariants.{Load}
use Rattle.session_text.specs.declared.answers.LoadAnswer.TheVariants.{ReadFault}
use Rattle.session_text.specs.declared.answers.Played.{Played}
use Rattle.session_text.specs.declared.answers.Played.TheVariants as played
use Rattle.session_text.specs.Headings.{heading}
use Rattle.session_steps.specs.State.{Setting, State}
use Rattle.session_steps.specs.Did.{Did}
use Rattle.session_steps.specs.Step.{SessionStep}
use Rattle.session_steps.specs.Session.{text_of}
use Rattle.session_steps.specs.Calls.{Outside, Situation}

abbrev pub is_read_fault : CommandAnswer → Bool
is_read_fault (Load (ReadFault file)) = true
is_read_fault answer = false

-- a command that may have run: it is number k of its script, and what was read is what the files hold, where they tell
pub record MayRun (lists : Bool) (held : List Read → Type 0) (setting : Setting) (one : Command) (old : State)
    (did : Did) : Type 0 where
  pub step : SessionStep lists setting old one did
  pub is_held : held did.reads

-- the counts of the files' faults: an unread file exactly where it rose
abbrev pub FileCause : Bool → ℕ → ℕ → Type 0
FileCause true before now = Rose before now
FileCause false before now = now ≡ before

-- the counts of the sink's faults: a write fault exactly where it rose
abbrev pub SinkCause : Played → ℕ → ℕ → Type 0
SinkCause played.WriteFault before now = Rose before now
SinkCause come before now = now ≡ before

abbrev pub ran_once : Option RunOf → List RunOf
ran_once None = []
ran_once (Some run) = run ∷ []

-- the command was answered: its whole text was written, and the state is that after it
pub record Answers {D : Type 0} (outside : Outside D) (setting : Setting) (k : ℕ) (one : Command)
    (before now : Situation D) (answer : CommandAnswer) : Type 0 where
  pub did : Did
  pub may : MayRun outside.lists outside.held setting one before.state did
  pub is_answer : answer ≡ did.answer
  pub is_after : now.state ≡ did.after
  pub grew : Grew outside.stands before.sink now.sink (text_of k one did)
  pub cause : FileCause (is_read_fault answer) before.files now.files
  pub kept : outside.lists ≡ false → now.runs ≡ before.runs ++ ran_once did.ran

-- a front of a command's text was written: one of an unread file only where the files' count rose
pub record Starts {D : Type 0} (outside : Outside D) (setting : Setting) (k : ℕ) (one : Command)
    (before now : Situation D) : Type 0 where
  pub did : Did
  pub may : MayRun outside.lists outside.held setting one before.state did
  pub front : List ℕ
  pub is_front : IsFront front (text_of k one did)
  pub grew : Grew outside.stands before.sink now.sink front
  pub by_fault : IsTrue (is_read_fault did.answer) → Rose before.files now.files

-- The state that a write fault leaves goes by how much was written: the old one where that is less than what is shown
-- before the state changes, the new one where it is more, and one of both where it is just that.
pub record LeftBy (front shown : List ℕ) (old new after : State) : Type 0 where
  pub less : length front < length shown → new ≡ old
  pub just : length front ≡ length shown → (new ≡ old) ⊎ (new ≡ after)
  pub more : length shown < length front → new ≡ after

pub record CutShort {D : Type 0} (outside : Outside D) (setting : Setting) (k : ℕ) (one : Command)
    (before now : Situation D) : Type 0 where
  pub starts : Starts outside setting k one before now
  pub left : LeftBy starts.front (heading k one ++ starts.did.shown) before.state now.state starts.did.after
  pub rose : Rose (outside.faults before.sink) (outside.faults now.sink)

-- want of memory: the state is as before
pub record RanOut {D : Type 0} (outside : Outside D) (setting : Setting) (k : ℕ) (one : Command)
    (before now : Situation D) : Type 0 where
  pub starts : Starts outside setting k one before now
  pub same : now.state ≡ before.state

abbrev pub IsPlayed : {D : Type 0} → Outside D → Setting → ℕ → Command → Situation D → Situation D → Played → Type 0
IsPlayed outside setting k one before now (played.Answered answer) = Answers outside setting k one before now answer
IsPlayed outside setting k one before now played.WriteFault = CutShort outside setting k one before now
IsPlayed outside setting k one before now played.NoMemory = RanOut outside setting k one before now
