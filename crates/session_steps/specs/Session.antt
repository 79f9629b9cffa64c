-- A session: its commands one after another, from the opening state on, until they end or one ends the session; the
-- text that it writes; and what it answers.
use Rattle.std.specs.Prelude.{ℕ, ◌+◌, Bool, true, false, ◌&&◌, List, [], ◌∷◌, ◌++◌, Option, Some, None}
use Rattle.read_model.specs.Reads.{Read}
use Rattle.rendezvous_rule.specs.Runs.{RunOf}
use Rattle.script_text.specs.declared.command.Command.{Command}
use Rattle.session_text.specs.declared.answers.CommandAnswer.{CommandAnswer}
use Rattle.session_text.specs.declared.answers.CommandAnswer.TheVariants.{Done, Load}
use Rattle.session_text.specs.declared.answers.LoadAnswer.TheVariants as load
use Rattle.session_text.specs.declared.answers.SessionAnswer.{SessionAnswer}
use Rattle.session_text.specs.declared.answers.SessionAnswer.TheVariants as session
use Rattle.session_text.specs.Headings.{heading, names_in}
use Rattle.session_text.specs.Lines.{answer_line}
use Rattle.session_steps.specs.State.{Setting, State, opening_state}
use Rattle.session_steps.specs.Did.{Did}
use Rattle.session_steps.specs.Step.{SessionStep}

-- The text of a command.

-- the heading, what the command did, and its answer; commands are numbered from 1
unfoldable pub text_of : ℕ → Command → Did → List ℕ
text_of k one did = heading k one ++ did.shown ++ did.told ++ answer_line (names_in one) did.answer

-- The commands of a session.

-- the rest of the script is not run
abbrev pub ends_session : CommandAnswer → Bool
ends_session (Load (load.ReadFault file)) = true
ends_session (Load (load.BadFile file fault)) = true
ends_session (Load (load.Panicked t)) = true
ends_session (Load (load.Unfinished t)) = true
ends_session answer = false

abbrev pub left_to_run : Bool → List Command → List Command
left_to_run true commands = []
left_to_run false commands = commands

-- Each command did this, from the state that the one before it left. After one that ends the session there is no other.
abbrev pub StepsFrom : Bool → Setting → State → List Command → List Did → Type 0
StepsFrom lists setting state [] [] = Unit {0}
StepsFrom lists setting state (one ∷ commands) (did ∷ dids) =
    SessionStep lists setting state one did
    × StepsFrom lists setting did.after (left_to_run (ends_session did.answer) commands) dids
StepsFrom lists setting state commands dids = ⊥

abbrev pub Steps : Bool → Setting → List Command → List Did → Type 0
Steps lists setting commands dids = StepsFrom lists setting (opening_state setting) commands dids

-- The whole text, all reads, and all rendezvous, in order.

abbrev pub texts_from : ℕ → List Command → List Did → List ℕ
texts_from k (one ∷ commands) (did ∷ dids) = text_of k one did ++ texts_from (k + 1) commands dids
texts_from k commands dids = []

abbrev pub all_reads : List Did → List Read
all_reads [] = []
all_reads (did ∷ dids) = did.reads ++ all_reads dids

abbrev pub with_run : Option RunOf → List RunOf → List RunOf
with_run None runs = runs
with_run (Some run) runs = run ∷ runs

abbrev pub all_runs : List Did → List RunOf
all_runs [] = []
all_runs (did ∷ dids) = with_run did.ran (all_runs dids)

-- What the session answers: what ended it early, where that is a fault of a file or a thread that halted; else whether
-- all was done.

abbrev pub is_done : CommandAnswer → Bool
is_done Done = true
is_done answer = false

abbrev pub all_done : List Did → Bool
all_done [] = true
all_done (did ∷ dids) = is_done did.answer && all_done dids

abbrev pub ended_by : CommandAnswer → Option SessionAnswer
ended_by (Load (load.ReadFault file)) = Some session.ReadFault
ended_by (Load (load.BadFile file fault)) = Some session.BadInput
ended_by (Load (load.Panicked t)) = Some (session.Panicked t)
ended_by answer = None

abbrev pub or_else : Option SessionAnswer → Option SessionAnswer → Option SessionAnswer
or_else (Some answer) later = Some answer
or_else None later = later

abbrev pub first_end : List Did → Option SessionAnswer
first_end [] = None
first_end (did ∷ dids) = or_else (ended_by did.answer) (first_end dids)

abbrev pub short_unless : Bool → SessionAnswer
short_unless true = session.Ended
short_unless false = session.Short

abbrev pub answer_by : Option SessionAnswer → Bool → SessionAnswer
answer_by (Some answer) done = answer
answer_by None done = short_unless done

abbrev pub session_answer : List Did → SessionAnswer
session_answer dids = answer_by (first_end dids) (all_done dids)
