-- What a call came to that does a command whose heading was written, by what it wrote of the rest of the command's
-- text.
use Rattle.std.specs.Prelude.{◌≡◌, ℕ, ◌≤◌, false, List, ◌++◌, All, Ok, Err}
use Rattle.uc_io.specs.Faults.{Rose}
use Rattle.uc_io.specs.Writing.{Grew, Writes}
use Rattle.session_steps.specs.status_rule.Written.{IsFront}
use Rattle.session_steps.specs.rendezvous_rule.Runs.{BeatInRange}
use Rattle.session_steps.specs.script_text.declared.command.Command.{Command}
use Rattle.session_steps.specs.script_text.declared.command.Command.TheVariants as command
use Rattle.session_steps.specs.session_text.Lines.{answer_line}
use Rattle.session_steps.specs.session_text.declared.answers.CommandAnswer.{CommandAnswer}
use Rattle.session_steps.specs.session_text.declared.answers.Played.{Played}
use Rattle.session_steps.specs.session_text.declared.answers.Played.TheVariants.{Answered, WriteFault, NoMemory}
use Rattle.session_steps.specs.State.{Setting}
use Rattle.session_steps.specs.Did.{Did}
use Rattle.session_steps.specs.Step.{SessionStep}
use Rattle.session_steps.specs.session_text.Headings.{names_in}
use Rattle.session_steps.specs.Calls.{Outside, Situation}
use Rattle.session_steps.specs.Played.{LeftBy, FileCause, SinkCause, is_read_fault, ran_once}

-- what comes behind the heading and what is shown
abbrev pub told_of : Command → Did → List ℕ
told_of one did = did.told ++ answer_line (names_in one) did.answer

-- the whole rest was written
pub record WroteRest {D : Type 0} (outside : Outside D) (one : Command) (did : Did) (before now : Situation D)
    (answer : CommandAnswer) : Type 0 where
  pub is_answer : answer ≡ did.answer
  pub is_after : now.state ≡ did.after
  pub grew : Grew outside.stands before.sink now.sink (did.shown ++ told_of one did)

-- a front of it was
pub record WroteFront {D : Type 0} (outside : Outside D) (one : Command) (did : Did)
    (before now : Situation D) : Type 0 where
  pub front : List ℕ
  pub is_front : IsFront front (did.shown ++ told_of one did)
  pub grew : Grew outside.stands before.sink now.sink front

abbrev pub FollowsBy : {D : Type 0} → Outside D → Command → Did → Situation D → Situation D → Played → Type 0
FollowsBy outside one did before now (Answered answer) = WroteRest outside one did before now answer
FollowsBy outside one did before now WriteFault =
    (wrote : WroteFront outside one did before now)
    × LeftBy wrote.front did.shown before.state now.state did.after
    × Rose (outside.faults before.sink) (outside.faults now.sink)
FollowsBy outside one did before now NoMemory = WroteFront outside one did before now × (now.state ≡ before.state)

pub record Follows {D : Type 0} (outside : Outside D) (one : Command) (did : Did) (before now : Situation D)
    (come : Played) : Type 0 where
  pub later : outside.faults before.sink ≤ outside.faults now.sink
  pub cause : SinkCause come (outside.faults before.sink) (outside.faults now.sink)
  pub follows : FollowsBy outside one did before now come

-- the command was done, or is cut short: a file is unread exactly where the files' count rose
pub record Does {D : Type 0} (outside : Outside D) (setting : Setting) (one : Command) (before now : Situation D)
    (come : Played) : Type 0 where
  pub did : Did
  pub step : SessionStep outside.lists setting before.state one did
  pub is_held : outside.held did.reads
  pub cause : FileCause (is_read_fault did.answer) before.files now.files
  pub rest : Follows outside one did before now come
  pub kept :
      (answer : CommandAnswer) → come ≡ Answered answer → outside.lists ≡ false →
      now.runs ≡ before.runs ++ ran_once did.ran

-- a text was written, and the command is answered so; or it was not all written
abbrev pub Tells : {D : Type 0} → (D → List ℕ → Type 0) → (D → ℕ) → D → D → List ℕ → CommandAnswer → Played → Type 0
Tells stands faults before now text given (Answered answer) =
    (answer ≡ given) × Writes {E = Unit {0}} stands faults before now text (Ok tt)
Tells stands faults before now text given WriteFault = Writes {E = Unit {0}} stands faults before now text (Err tt)
Tells stands faults before now text given NoMemory = ⊥

-- the events of a load are those of the machine's threads
abbrev pub BeatsInRange : ℕ → Command → Type 0
BeatsInRange threads (command.Load force names beats) = All (λ beat. BeatInRange threads beat) beats
BeatsInRange threads one = Unit {0}
