-- What the program writes, and when it comes to its end.
use Rattle.std.specs.Prelude.{◌≡◌, ◌⊎◌, ℕ, ◌<◌, List, [], ◌∷◌, length, map, Option, None}
use Rattle.status_rule.specs.declared.status.Status.{Status}
use Rattle.status_rule.specs.declared.status.Status.TheVariants.{Usage, WriteFault}
use Rattle.uc_topology.specs.Stated.{Machine}
use Rattle.uc_topology.specs.Texts as topology
use Rattle.uc_gen.specs.Texts as generated
use Rattle.entry_model.specs.Reading.{Reading}
use Rattle.read_model.specs.Accepts.{AreAccepted, IsMachine}
use Rattle.read_model.specs.Reads.{Read, AreHeld}
use Rattle.report_text.specs.Lines.{usage_line}
use Rattle.script_text.specs.Accepts.{IsScript}
use Rattle.script_text.specs.Stated.{Stated}
use Rattle.script_text.specs.Texts.{States}
use Rattle.tool_text.specs.Words.{Asked, Faulty, ListOf, ShowOf, SelectOf, PlayOf, GenOf, asked}
use Rattle.tool_text.specs.Commands.{ListText, ShowText, SelectText, entries_of_all}
use Rattle.tool_text.specs.Plays.{PlayText, GenText, limits_of, setting_of, bundle}
use Rattle.tool_text.specs.Able.{CanBePlayed}

-- the texts for what a command line asks for, by the reads that were made
abbrev pub AskedText : Asked → List Read → Option ℕ → List ℕ → Status → Type 0
AskedText (Faulty i) reads None text (Usage k) = (reads ≡ []) × (k ≡ i) × (text ≡ usage_line i)
AskedText (Faulty i) reads files text status = ⊥
AskedText (ListOf names) reads files text status = ListText names reads files text status
AskedText (ShowOf name number) reads files text status = ShowText name number reads files text status
AskedText (SelectOf topology names) reads files text status = SelectText topology names reads files text status
AskedText (PlayOf topology script) reads files text status = PlayText topology script reads files text status
AskedText (GenOf number) reads files text status = GenText number reads files text status

-- the texts for the words of a command line
abbrev pub ToolText : List (List ℕ) → List Read → Option ℕ → List ℕ → Status → Type 0
ToolText words = AskedText (asked words)

-- a text of some reads; where the files tell what they hold, that is what the reads gave
pub record FromReads (tells : Type 0) (holds : List ℕ → List ℕ)
    (texts : List Read → Option ℕ → List ℕ → Status → Type 0) (files : Option ℕ) (text : List ℕ) (status : Status)
    : Type 0 where
  pub reads : List Read
  pub held : tells → AreHeld holds reads
  pub is_text : texts reads files text status

-- the words break the rule exactly where the status says so, but where not even that could be written
abbrev pub UsageCause : Asked → Status → Type 0
UsageCause (Faulty i) status = (status ≡ Usage i) ⊎ (status ≡ WriteFault)
UsageCause line (Usage k) = ⊥
UsageCause line status = Unit {0}

-- What is asked for can be done: every file has a reading within its limit, a number is that of an entry, and each
-- command of a session finds what it needs.
abbrev pub CanBeDone : Asked → (List ℕ → List ℕ) → Type 0
CanBeDone (Faulty i) holds = ⊥
CanBeDone (ListOf names) holds = (readings : List Reading) × AreAccepted (map holds names) readings
CanBeDone (ShowOf name number) holds =
    (readings : List Reading) × AreAccepted (holds name ∷ []) readings × (number < length (entries_of_all readings))
CanBeDone (SelectOf topology names) holds =
    (machine : Machine) × IsMachine (holds topology) machine
    × ((readings : List Reading) × AreAccepted (map holds names) readings)
CanBeDone (PlayOf topology script) holds =
    (machine : Machine) × IsMachine (holds topology) machine
    × ((stated : Stated) × IsScript (limits_of machine) (holds script) stated
    × CanBePlayed (setting_of machine stated) stated.commands holds)
CanBeDone (GenOf number) holds =
    (machine : Machine) × topology.States (generated.topology_text number) machine
    × ((stated : Stated) × States (limits_of machine) (generated.script_text number) stated
    × CanBePlayed (setting_of machine stated) stated.commands (bundle number))
