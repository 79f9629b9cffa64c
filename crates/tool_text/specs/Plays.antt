-- The texts of the commands that play a session, each with its status, for the reads that were made, in their order.
use Rattle.std.specs.Prelude.{◌≡◌, ◌⊎◌, ℕ, ◌+◌, ◌-◌, ◌^◌, min, true, if◌then◌else◌, Option, Some, None}
use Rattle.std.specs.Prelude.{List, [], ◌∷◌, length, take, bytes_eq, count_by, codes, decimal}
use Rattle.uc_text.specs.Lines.{is_line_feed}
use Rattle.uc_topology.specs.Stated.{Machine}
use Rattle.uc_topology.specs.Texts as topology
use Rattle.uc_gen.specs.Bundle.{intel_file}
use Rattle.uc_gen.specs.Tally.{last_line}
use Rattle.uc_gen.specs.Texts as generated
use Rattle.status_rule.specs.declared.status.Status.{Status}
use Rattle.status_rule.specs.declared.status.Status.TheVariants as statuses
use Rattle.status_rule.specs.declared.status.Status.TheVariants.{BadInput, ReadFault}
use Rattle.read_model.specs.Accepts.{IsMachine}
use Rattle.read_model.specs.Reads.{Read, AreHeld}
use Rattle.report_text.specs.Lines.{joined, unread_line}
use Rattle.script_text.specs.Accepts.{IsScript, RefusesScript}
use Rattle.script_text.specs.Lines.{script_line}
use Rattle.script_text.specs.declared.fault.ScriptCause.{ScriptCause}
use Rattle.script_text.specs.declared.forms.Limits.{Limits}
use Rattle.script_text.specs.Stated.{Stated}
use Rattle.script_text.specs.Texts.{States}
use Rattle.session_text.specs.declared.answers.SessionAnswer.{SessionAnswer}
use Rattle.session_text.specs.declared.answers.SessionAnswer.TheVariants as session
use Rattle.session_steps.specs.State.{Setting}
use Rattle.session_steps.specs.Did.{Did}
use Rattle.session_steps.specs.Session.{Steps, texts_from, all_reads, session_answer}
use Rattle.tool_text.specs.Commands.{FailsAt}

-- the threads and cores that a script for a machine may name
abbrev pub limits_of : Machine → Limits
limits_of machine = record { threads = length machine.stated.threads; cores = length machine.stated.cores }

-- what a session of a script on a machine plays on
abbrev pub setting_of : Machine → Stated → Setting
setting_of machine script = record { machine = machine; blocks = script.pool; patience = script.patience }

-- how a run ends whose session answers so
abbrev pub status_of : SessionAnswer → Status
status_of session.Ended = statuses.Done
status_of session.Short = statuses.Short
status_of session.BadInput = statuses.BadInput
status_of session.ReadFault = statuses.ReadFault
status_of session.WriteFault = statuses.WriteFault
status_of (session.Panicked t) = statuses.Panicked t
status_of session.NoMemory = statuses.NoMemory

-- how many files were read to their ends where a session ended with one that was not read
abbrev pub unread_after : ℕ → SessionAnswer → Option ℕ
unread_after count session.ReadFault = Some count
unread_after count answer = None

-- the commands of a script were run, each with its lines, with these reads
pub record Plays (machine : Machine) (script : Stated) (reads : List Read) (text : List ℕ) (answer : SessionAnswer)
    : Type 0 where
  pub dids : List Did
  pub steps : Steps true (setting_of machine script) script.commands dids
  pub all : reads ≡ all_reads dids
  pub lines : text ≡ texts_from 1 script.commands dids
  pub is_answer : answer ≡ session_answer dids

-- `play`

-- the topology is read and states a machine, before the script is opened
pub record StatesMachine (topology : List ℕ) (machine : Machine) (reads behind : List Read) : Type 0 where
  pub bytes : List ℕ
  pub first : reads ≡ record { name = topology; bytes = bytes } ∷ behind
  pub is_machine : IsMachine bytes machine

-- a script that is read and refused, and the line on it
pub record IsScriptRefusal (script : List ℕ) (machine : Machine) (reads : List Read) (text : List ℕ) : Type 0 where
  pub bytes : List ℕ
  pub only : reads ≡ record { name = script; bytes = bytes } ∷ []
  pub line : ℕ
  pub cause : ScriptCause
  pub refuses : RefusesScript (limits_of machine) bytes line cause
  pub lines : text ≡ script_line line cause

-- the script is not read, or is refused; the reads are those behind the topology's
abbrev pub ScriptFailsAt : List ℕ → Machine → List Read → Option ℕ → List ℕ → Status → Type 0
ScriptFailsAt script machine reads (Some k) text ReadFault = (reads ≡ []) × (k ≡ 1) × (text ≡ unread_line script)
ScriptFailsAt script machine reads None text BadInput = IsScriptRefusal script machine reads text
ScriptFailsAt script machine reads files text status = ⊥

-- or it is read and states commands, which are run
pub record PlaysScript (script : List ℕ) (machine : Machine) (reads : List Read) (files : Option ℕ) (text : List ℕ)
    (status : Status) : Type 0 where
  pub bytes : List ℕ
  pub behind : List Read
  pub first : reads ≡ record { name = script; bytes = bytes } ∷ behind
  pub stated : Stated
  pub is_script : IsScript (limits_of machine) bytes stated
  pub answer : SessionAnswer
  pub plays : Plays machine stated behind text answer
  pub is_status : status ≡ status_of answer
  pub count : files ≡ unread_after (2 + length behind) answer

pub record PlaysFor (topology script : List ℕ) (reads : List Read) (files : Option ℕ) (text : List ℕ)
    (status : Status) : Type 0 where
  pub machine : Machine
  pub behind : List Read
  pub states : StatesMachine topology machine reads behind
  pub played :
      ScriptFailsAt script machine behind files text status ⊎ PlaysScript script machine behind files text status

abbrev pub PlayText : List ℕ → List ℕ → List Read → Option ℕ → List ℕ → Status → Type 0
PlayText topology script reads files text status =
    FailsAt topology reads files text status ⊎ PlaysFor topology script reads files text status

-- `gen`

-- the one file of a generated session
abbrev pub bundle : ℕ → List ℕ → List ℕ
bundle number name = if bytes_eq name (codes "bundle.bin") then intel_file number else []

-- how many lines a session wrote, and the front of its last line
abbrev pub summary_line : ℕ → List ℕ → List ℕ
summary_line number text =
    joined
    (codes "gen " ∷ decimal number
    ∷ codes " lines " ∷ decimal (min (count_by is_line_feed text) (2 ^ 64 - 1))
    ∷ codes " last " ∷ take 128 (last_line text)
    ∷ codes "\n" ∷ [])

-- the commands of the generated script were run on the machine of the generated topology, and the generated bundle was
-- read
pub record IsGenerated (number : ℕ) (text : List ℕ) (answer : SessionAnswer) : Type 0 where
  pub machine : Machine
  pub is_machine : topology.States (generated.topology_text number) machine
  pub stated : Stated
  pub is_script : States (limits_of machine) (generated.script_text number) stated
  pub reads : List Read
  pub held : AreHeld (bundle number) reads
  pub plays : Plays machine stated reads text answer

-- no file of the outside is read
pub record GenText (number : ℕ) (reads : List Read) (files : Option ℕ) (text : List ℕ) (status : Status) : Type 0 where
  pub no_reads : reads ≡ []
  pub none_fails : files ≡ None
  pub whole : List ℕ
  pub answer : SessionAnswer
  pub generated : IsGenerated number whole answer
  pub lines : text ≡ summary_line number whole
  pub is_status : status ≡ status_of answer
