-- What was written is of texts that hold more, where each text does.
use Rattle.std.proofs.Common.{ℕ, List, Option}
use Rattle.status_rule.specs.declared.status.Status.{Status}
use Rattle.status_rule.specs.declared.status.Status.TheVariants.{Done, Usage, BadInput, Short, ReadFault, WriteFault, Panicked, NoMemory}
use Rattle.status_rule.specs.Written.{Written, WroteText, StartsText}
use Rattle.tool_text.specs.read_model.Reads.{Read}
use Rattle.tool_text.specs.Words.{Asked}
use Rattle.tool_text.specs.Tool.{AskedText, FromReads}
use Rattle.tool_text.specs.Headline.{HoldingText}
use Rattle.tool_text.specs.Ends.{CausedText}
use Rattle.tool_laws.specs.Laws.{TextsHold, TextsHaveCauses}

module _ {D : Type 0} (texts others : Option ℕ → List ℕ → Status → Type 0) (rose : Type 0) (stands : D → List ℕ → Type 0)
    (old new : D)
    (each : (files : Option ℕ) (text : List ℕ) (status : Status) → texts files text status → others files text status) where
  whole_as : (status : Status) → WroteText texts stands old new status → WroteText others stands old new status
  whole_as status wrote = record {
    files = wrote.files;
    text = wrote.text;
    is_text = each wrote.files wrote.text status wrote.is_text;
    goes = wrote.goes;
    grew = wrote.grew;
  }

  starts_as : (front : List ℕ) → StartsText texts rose front → StartsText others rose front
  starts_as front starts = record {
    files = starts.files;
    text = starts.text;
    status = starts.status;
    is_text = each starts.files starts.text starts.status starts.is_text;
    goes = starts.goes;
    by_fault = starts.by_fault;
    is_front = starts.is_front;
  }

  pub written_as : (status : Status) → Written texts rose stands old new status → Written others rose stands old new status
  written_as Done written = whole_as Done written
  written_as (Usage k) written = whole_as (Usage k) written
  written_as BadInput written = whole_as BadInput written
  written_as Short written = whole_as Short written
  written_as ReadFault written = whole_as ReadFault written
  written_as WriteFault written = record {
    front = written.front;
    line = written.line;
    starts = starts_as written.front written.starts;
    of_line = written.of_line;
    grew = written.grew;
  }
  written_as (Panicked t) written = whole_as (Panicked t) written
  written_as NoMemory written = record {
    front = written.front;
    starts = starts_as written.front written.starts;
    grew = written.grew;
  }

module _ (tells : Type 0) (holds : List ℕ → List ℕ) where
  reads_as : (texts others : List Read → Option ℕ → List ℕ → Status → Type 0) →
      ((reads : List Read) (files : Option ℕ) (text : List ℕ) (status : Status) → texts reads files text status →
      others reads files text status) →
      (files : Option ℕ) (text : List ℕ) (status : Status) → FromReads tells holds texts files text status →
      FromReads tells holds others files text status
  reads_as texts others each files text status is = record {
    reads = is.reads;
    held = is.held;
    is_text = each is.reads files text status is.is_text;
  }

-- texts of which the headline holds
pub holding : TextsHold → {D : Type 0} (tells : Type 0) (holds : List ℕ → List ℕ) (rose : Type 0)
    (stands : D → List ℕ → Type 0) (old new : D) (line : Asked) (status : Status) →
    Written (FromReads tells holds (AskedText line)) rose stands old new status →
    Written (FromReads tells holds (HoldingText line)) rose stands old new status
holding law tells holds rose stands old new line status written =
    written_as (FromReads tells holds (AskedText line)) (FromReads tells holds (HoldingText line)) rose stands old new
    (reads_as tells holds (AskedText line) (HoldingText line)
    (λ reads files text status is. record { is_text = is; headline = law line reads files text status })) status written

-- texts of which some statuses come exactly where they have their cause
pub caused : TextsHaveCauses → {D : Type 0} (tells : Type 0) (holds : List ℕ → List ℕ) (rose : Type 0)
    (stands : D → List ℕ → Type 0) (old new : D) (line : Asked) (status : Status) →
    Written (FromReads tells holds (AskedText line)) rose stands old new status →
    Written (FromReads tells holds (CausedText line)) rose stands old new status
caused law tells holds rose stands old new line status written =
    written_as (FromReads tells holds (AskedText line)) (FromReads tells holds (CausedText line)) rose stands old new
    (reads_as tells holds (AskedText line) (CausedText line)
    (λ reads files text status is. law line reads files text status is)) status written
