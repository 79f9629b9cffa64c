-- No text of `list`, `show`, `select` or faulty words has the status of a session that is short or in which a thread panics.
use Rattle.std.proofs.Common.{◌≡◌, inl, inr, ℕ, List, Option, Some, None, Result, Ok, Err, MatchResult, sym, subst}
use Rattle.uc_io.specs.declared.sinks.SinkFailed.{SinkFailed}
use Rattle.uc_topology.specs.Stated.{Machine}
use Rattle.status_rule.specs.declared.status.Status.{Status}
use Rattle.status_rule.specs.declared.status.Status.TheVariants.{Done, Usage, BadInput, ReadFault, WriteFault, NoMemory}
use Rattle.status_rule.specs.Written.{Written}
use Rattle.tool_text.specs.read_model.Reads.{Read, Outcome, AllRead, NotRead, Refused}
use Rattle.tool_text.specs.Words.{Asked, Faulty, ListOf, ShowOf, SelectOf, PlayOf, GenOf}
use Rattle.tool_text.specs.Commands.{StopsAt, Listed, Shown, Selected, FailsAt}
use Rattle.tool_text.specs.Tool.{AskedText, FromReads}
use Rattle.uc_cli.specs.Ends.{NoSession, MayEnd}

stopped : (outcome : Outcome) (text : List ℕ) (status : Status) → StopsAt outcome text status → NoSession status
stopped (NotRead name) text ReadFault is = tt
stopped (Refused name offset cause) text BadInput is = tt
stopped outcome text status is = absurd is

listed : (names : List (List ℕ)) (outcome : Outcome) (text : List ℕ) (status : Status) → Listed names outcome text status → NoSession status
listed names (AllRead readings) text Done is = tt
listed names outcome text status is = stopped outcome text status is

shown : (number : ℕ) (outcome : Outcome) (text : List ℕ) (status : Status) → Shown number outcome text status → NoSession status
shown number (AllRead readings) text Done is = tt
shown number (AllRead readings) text BadInput is = tt
shown number outcome text status is = stopped outcome text status is

selected : (machine : Machine) (outcome : Outcome) (text : List ℕ) (status : Status) → Selected machine outcome text status → NoSession status
selected machine (AllRead readings) text Done is = tt
selected machine outcome text status is = stopped outcome text status is

failed : (topology : List ℕ) (reads : List Read) (files : Option ℕ) (text : List ℕ) (status : Status) → FailsAt topology reads files text status → NoSession status
failed topology reads (Some k) text ReadFault is = tt
failed topology reads None text BadInput is = tt
failed topology reads files text status is = absurd is

text_ends : (line : Asked) (reads : List Read) (files : Option ℕ) (text : List ℕ) (status : Status) → AskedText line reads files text status → MayEnd line status
text_ends (Faulty i) reads None text (Usage k) is = tt
text_ends (Faulty i) reads files text status is = absurd is
text_ends (ListOf names) reads files text status is = listed names is.outcome text status is.listed
text_ends (ShowOf name number) reads files text status is = shown number is.outcome text status is.shown
text_ends (SelectOf topology names) reads files text status (inl fails) = failed topology reads files text status fails
text_ends (SelectOf topology names) reads files text status (inr is) = selected is.machine is.outcome text status is.selected
text_ends (PlayOf topology script) reads files text status is = tt
text_ends (GenOf number) reads files text status is = tt

-- a run that was cut short does not end as a session does
cut_ends : (line : Asked) (status : Status) → NoSession status → MayEnd line status
cut_ends (PlayOf topology script) status is = tt
cut_ends (GenOf number) status is = tt
cut_ends line status is = is

-- what a run wrote says so of its status
pub written_ends : {D : Type 0} (stands : D → List ℕ → Type 0) (old new : D) (tells : Type 0) (holds : List ℕ → List ℕ) (rose : Type 0) (line : Asked) (status : Status)
    → Written (FromReads tells holds (AskedText line)) rose stands old new status → MayEnd line status
written_ends stands old new tells holds rose line WriteFault is = cut_ends line WriteFault tt
written_ends stands old new tells holds rose line NoMemory is = cut_ends line NoMemory tt
written_ends stands old new tells holds rose line status is = text_ends line is.is_text.reads is.files is.text status is.is_text.is_text

-- and so does the line on faulty words
pub usage_ends : (line : Asked) (index : ℕ) (status : Status) (wrote : Result (Unit {0}) SinkFailed) → MatchResult wrote (λ _. status ≡ Usage index) (λ _. status ≡ WriteFault) → MayEnd line status
usage_ends line index status (Ok done) is = subst (MayEnd line) (sym is) (cut_ends line (Usage index) tt)
usage_ends line index status (Err failed) is = subst (MayEnd line) (sym is) (cut_ends line WriteFault tt)
