-- What the program writes, each text with the status that it then ends with, for the course that its run took.
use Rattle.std.specs.Prelude.{◌≡◌, ◌⊎◌, ℕ, ◌+◌, ◌<◌, ◌≤◌, Bool, false, List, [], ◌∷◌, ◌++◌, length, Option, None}
use Rattle.uc_topology.specs.declared.fault.TopoCause.TheVariants.{LiveLimit}
use Rattle.uc_topology.specs.Stated.{Machine}
use Rattle.status_rule.specs.declared.status.Status.{Status}
use Rattle.status_rule.specs.declared.status.Status.TheVariants.{Usage, BadInput, WriteFault, NoMemory}
use Rattle.read_model.specs.Reads.{Read, AreHeld}
use Rattle.tool_text.specs.report_text.Lines.{usage_line, topology_line}
use Rattle.tool_text.specs.rendezvous_rule.Runs.{RunOf}
use Rattle.script_text.specs.Accepts.{IsScript}
use Rattle.script_text.specs.Stated.{Stated}
use Rattle.session_text.specs.declared.answers.SessionAnswer.{SessionAnswer}
use Rattle.tool_text.specs.session_steps.Did.{Did}
use Rattle.tool_text.specs.session_steps.Session.{Steps, texts_from, all_reads, all_runs, session_answer}
use Rattle.tool_text.specs.Commands.{FailsAt}
use Rattle.tool_text.specs.Plays.{limits_of, setting_of, status_of, unread_after, StatesMachine, ScriptFailsAt}
use Rattle.tool_text.specs.Words.{Asked, Faulty, PlayOf}
use Rattle.live_cli.specs.Words.{live_asked}

-- a way for threads to meet: whether a rendezvous prints its items, and how many threads one takes
pub record Rendezvous : Type 0 where
  pub lists : Bool
  pub most : ℕ

-- the course of a run: the reads that were made and the rendezvous that were held, both in their order
pub record Course : Type 0 where
  pub reads : List Read
  pub runs : List RunOf

-- the machine has more threads than a rendezvous takes; the script is not opened
pub record IsTooMany (most : ℕ) (topology : List ℕ) (reads : List Read) (text : List ℕ) : Type 0 where
  pub machine : Machine
  pub states : StatesMachine topology machine reads []
  pub many : most < length machine.stated.threads
  pub lines : text ≡ topology_line 0 LiveLimit

abbrev pub TooManyAt : ℕ → List ℕ → List Read → Option ℕ → List ℕ → Status → Type 0
TooManyAt most topology reads None text BadInput = IsTooMany most topology reads text
TooManyAt most topology reads files text status = ⊥

-- the commands of a script were run, each with its lines
pub record PlaysLive (lists : Bool) (machine : Machine) (script : Stated) (course : Course) (text : List ℕ)
    (answer : SessionAnswer) : Type 0 where
  pub dids : List Did
  pub steps : Steps lists (setting_of machine script) script.commands dids
  pub all : course.reads ≡ all_reads dids
  pub held : course.runs ≡ all_runs dids
  pub lines : text ≡ texts_from 1 script.commands dids
  pub is_answer : answer ≡ session_answer dids

-- the script is read and states commands, which are run
pub record PlaysScript (lists : Bool) (script : List ℕ) (machine : Machine) (course : Course) (files : Option ℕ)
    (text : List ℕ) (status : Status) : Type 0 where
  pub bytes : List ℕ
  pub behind : List Read
  pub first : course.reads ≡ record { name = script; bytes = bytes } ∷ behind
  pub stated : Stated
  pub is_script : IsScript (limits_of machine) bytes stated
  pub answer : SessionAnswer
  pub plays : PlaysLive lists machine stated (record course { reads = behind }) text answer
  pub is_status : status ≡ status_of answer
  pub count : files ≡ unread_after (2 + length behind) answer

-- the machine has few enough threads; its script is not read or refused, or played
pub record PlaysFor (rendezvous : Rendezvous) (topology script : List ℕ) (course : Course) (files : Option ℕ)
    (text : List ℕ) (status : Status) : Type 0 where
  pub machine : Machine
  pub behind : List Read
  pub states : StatesMachine topology machine course.reads behind
  pub few : length machine.stated.threads ≤ rendezvous.most
  pub played :
      ((course.runs ≡ []) × ScriptFailsAt script machine behind files text status)
      ⊎ PlaysScript rendezvous.lists script machine (record course { reads = behind }) files text status

abbrev pub SessionText : Rendezvous → List ℕ → List ℕ → Course → Option ℕ → List ℕ → Status → Type 0
SessionText rendezvous topology script course files text status =
    ((course.runs ≡ []) × FailsAt topology course.reads files text status)
    ⊎ ((course.runs ≡ []) × TooManyAt rendezvous.most topology course.reads files text status)
    ⊎ PlaysFor rendezvous topology script course files text status

-- the texts for what a command line asks for
abbrev pub AskedText : Rendezvous → Asked → Course → Option ℕ → List ℕ → Status → Type 0
AskedText rendezvous (Faulty i) course None text (Usage k) =
    (course.reads ≡ []) × (course.runs ≡ []) × (k ≡ i) × (text ≡ usage_line i)
AskedText rendezvous (PlayOf topology script) course files text status =
    SessionText rendezvous topology script course files text status
AskedText rendezvous line course files text status = ⊥

-- the texts for the words of a command line
abbrev pub LiveText : Rendezvous → List (List ℕ) → Course → Option ℕ → List ℕ → Status → Type 0
LiveText rendezvous words = AskedText rendezvous (live_asked words)

-- What a rendezvous keeps of its runs grew by just these, where they list nothing. After a write fault, or for want of
-- memory, nothing is said of them.
abbrev pub KeptBy : Bool → List RunOf → List RunOf → Status → List RunOf → Type 0
KeptBy lists before now WriteFault = λ runs. Unit {0}
KeptBy lists before now NoMemory = λ runs. Unit {0}
KeptBy lists before now status = λ runs. lists ≡ false → now ≡ before ++ runs

-- a text of some course; where the files tell what they hold, that is what the reads gave
pub record FromRuns (tells : Type 0) (holds : List ℕ → List ℕ) (kept : List RunOf → Type 0)
    (texts : Course → Option ℕ → List ℕ → Status → Type 0) (files : Option ℕ) (text : List ℕ) (status : Status)
    : Type 0 where
  pub course : Course
  pub held : tells → AreHeld holds course.reads
  pub is_kept : kept course.runs
  pub is_text : texts course files text status
