-- What holds of every text of `ucode`.
use Rattle.std.specs.Prelude.{◌≡◌, ◌⊎◌, ℕ, List, Option}
use Rattle.status_rule.specs.declared.status.Status.{Status}
use Rattle.status_rule.specs.declared.status.Status.TheVariants.{Done, ReadFault}
use Rattle.status_rule.specs.Written.{HasText}
use Rattle.read_model.specs.Reads.{Read, AreHeld}
use Rattle.tool_text.specs.Words.{Asked}
use Rattle.tool_text.specs.Plays.{PlayText, GenText}
use Rattle.tool_text.specs.Tool.{AskedText, ToolText, FromReads, CanBeDone}
use Rattle.tool_text.specs.Headline.{Headline}
use Rattle.tool_text.specs.Ends.{CausedText}

-- for all words and files there is a text of a run in which no read fails and each gives what is held
abbrev pub LinesHaveTexts : Type 0
LinesHaveTexts =
    (words : List (List ℕ)) (holds : List ℕ → List ℕ) → HasText (FromReads (Unit {0}) holds (ToolText words))

-- so for each session that is played, and for each that is generated
abbrev pub PlaysHaveTexts : Type 0
PlaysHaveTexts =
    (topology script : List ℕ) (holds : List ℕ → List ℕ) →
    HasText (FromReads (Unit {0}) holds (PlayText topology script))

abbrev pub GeneratedHaveTexts : Type 0
GeneratedHaveTexts =
    (number : ℕ) (holds : List ℕ → List ℕ) → HasText (FromReads (Unit {0}) holds (GenText number))

-- the headline holds of each text that the program may write
abbrev pub TextsHold : Type 0
TextsHold =
    (line : Asked) (reads : List Read) (files : Option ℕ) (text : List ℕ) (status : Status) →
    Headline line reads files text status

-- each text that the program may write ends short, or with a thread that halted, exactly where its commands say so
abbrev pub TextsHaveCauses : Type 0
TextsHaveCauses =
    (line : Asked) (reads : List Read) (files : Option ℕ) (text : List ℕ) (status : Status) →
    AskedText line reads files text status → CausedText line reads files text status

-- where it can be done, a text of held reads is that of a run that did all, or of one in which a read failed
abbrev pub DoneWhereItCan : Type 0
DoneWhereItCan =
    (line : Asked) (holds : List ℕ → List ℕ) (reads : List Read) (files : Option ℕ) (text : List ℕ) (status : Status) →
    CanBeDone line holds → AreHeld holds reads → AskedText line reads files text status →
    (status ≡ Done) ⊎ (status ≡ ReadFault)
