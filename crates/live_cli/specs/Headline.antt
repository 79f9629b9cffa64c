-- What holds of whatever a text of live loads shows to be done, for every set of files, topology and script, and every
-- order of the threads' steps: the headline sentence, part by part, of each command of the session that it is the text
-- of. Where a rendezvous lists no items, its outcome is one that a run may come to.
use Rattle.std.specs.Prelude.{ℕ, List, Option}
use Rattle.status_rule.specs.declared.status.Status.{Status}
use Rattle.tool_text.specs.session_steps.State.{opening_state}
use Rattle.tool_text.specs.Headline.{SessionHolds}
use Rattle.tool_text.specs.Plays.{setting_of}
use Rattle.tool_text.specs.Words.{Asked, PlayOf}
use Rattle.live_cli.specs.Texts.{Rendezvous, Course, PlaysFor, PlaysScript, AskedText}

-- whatever session it is the text of, this holds of that
abbrev pub LiveHeadline : Rendezvous → Asked → Course → Option ℕ → List ℕ → Status → Type 0
LiveHeadline rendezvous (PlayOf topology script) course files text status =
    (few : PlaysFor rendezvous topology script course files text status) →
    (plays : PlaysScript rendezvous.lists script few.machine (record course { reads = few.behind }) files text status) →
    SessionHolds rendezvous.lists (setting_of few.machine plays.stated)
    (opening_state (setting_of few.machine plays.stated)) plays.stated.commands plays.plays.dids
LiveHeadline rendezvous line course files text status = Unit {0}

-- a text for what a command line asks for, of which this holds
pub record HoldingText (rendezvous : Rendezvous) (line : Asked) (course : Course) (files : Option ℕ) (text : List ℕ)
    (status : Status) : Type 0 where
  pub is_text : AskedText rendezvous line course files text status
  pub headline : LiveHeadline rendezvous line course files text status

-- each text that the program may write is one
abbrev pub TextsHold : Type 0
TextsHold =
    (rendezvous : Rendezvous) (line : Asked) (course : Course) (files : Option ℕ) (text : List ℕ) (status : Status) →
    LiveHeadline rendezvous line course files text status
