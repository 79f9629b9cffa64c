-- What a command wrote, and why it ended.
use Rattle.std.proofs.Common.{◌≡◌, ◌⊎◌, inl, inr, ℕ, List, [], ◌∷◌, Option, Some, None, Err, IsSome, refl, sym, subst, ap, arith}
use Rattle.std.proofs.lemmas.Bool.{false≢true}
use Rattle.uc_bytes.specs.declared.causes.FileCause.{FileCause}
use Rattle.uc_io.specs.Faults.{Rose}
use Rattle.status_rule.specs.declared.status.Status.{Status}
use Rattle.status_rule.specs.declared.status.Status.TheVariants as statuses
use Rattle.status_rule.specs.Status.{code_of}
use Rattle.status_rule.specs.Causes.{ReadCause, WriteCause}
use Rattle.status_rule.specs.Written.{Written, Ends, HasText}
use Rattle.status_rule.proofs.Endings.{Written-ends, Written-memory, StartsText-nothing}
use Rattle.tool_text.specs.report_text.Lines.{unread_line, fault_line, topology_line}
use Rattle.tool_text.specs.read_model.Reads.{Read, NotRead, Refused, ReadsOf}
use Rattle.tool_text.proofs.read_model.Outcomes.{held_nil, held_one}
use Rattle.tool_text.specs.Words.{Asked}
use Rattle.tool_text.specs.Commands.{FailsAt}
use Rattle.tool_text.specs.Tool.{AskedText, FromReads, CanBeDone}
use Rattle.tool_laws.specs.Laws.{DoneWhereItCan}
use Rattle.tool_laws.proofs.SomeText.{whether_told}
use Rattle.tool_laws.proofs.Complete.{IsEnd}
use Rattle.uc_cli.specs.Reading.{AreUpdatesRead, IsTopologyRead}
use Rattle.uc_cli.specs.Refusal.{line_of, status_of}
use Rattle.uc_cli.specs.declared.refusal.Refusal.{Refusal}
use Rattle.uc_cli.specs.declared.refusal.Refusal.TheVariants.{Unread, BadFile, BadTopology, BadScript, NoEntry, NoMemory}

pub no_file : {P : Type 0} → IsSome {T = ℕ} None → P
no_file some = absurd (false≢true some)

module _ {D : Type 0} (stands : D → List ℕ → Type 0) (faults : D → ℕ) (old new : D) where
  -- a read fault of a run that was to end with a status has its cause
  pub ended_read : (before now : ℕ) (text : List ℕ) (meant status : Status) → ReadCause before now meant → Ends stands faults old new text meant status → ReadCause before now status
  ended_read before now text meant status cause ends = elim ends.outcome [
    | inl whole ↦ subst (ReadCause before now) (sym whole.0) cause
    | inr cut ↦ subst (ReadCause before now) (sym cut.0) tt
  ]

  -- a run that did all
  pub done_written : (texts : Option ℕ → List ℕ → Status → Type 0) (rose : Type 0) (text : List ℕ) (status : Status) → texts None text statuses.Done → Ends stands faults old new text statuses.Done status → Written texts rose stands old new status
  done_written texts rose text status is ends = Written-ends texts rose stands faults old new None text statuses.Done status tt is tt no_file ends

  -- a run that ended with bad input
  pub bad_written : (texts : Option ℕ → List ℕ → Status → Type 0) (rose : Type 0) (text : List ℕ) (status : Status) → texts None text statuses.BadInput → Ends stands faults old new text statuses.BadInput status → Written texts rose stands old new status
  bad_written texts rose text status is ends = Written-ends texts rose stands faults old new None text statuses.BadInput status tt is tt no_file ends

  -- a run that a failed read ended
  pub unread_written : (texts : Option ℕ → List ℕ → Status → Type 0) (rose : Type 0) (k : ℕ) (text : List ℕ) (status : Status) → rose → texts (Some k) text statuses.ReadFault → Ends stands faults old new text statuses.ReadFault status
      → Written texts rose stands old new status
  unread_written texts rose k text status rises is ends = Written-ends texts rose stands faults old new (Some k) text statuses.ReadFault status tt is tt (λ some. rises) ends

  -- a run without memory
  pub memory_written : (texts : Option ℕ → List ℕ → Status → Type 0) (rose : Type 0) (status : Status) → HasText texts → Ends stands faults old new (line_of NoMemory) statuses.NoMemory status → Written texts rose stands old new status
  memory_written texts rose status has ends = Written-memory texts rose stands faults old new status (StartsText-nothing texts rose has) ends

  -- a run that did not get all of its update files, by the texts for one that is not read or is refused
  pub files_refused : (texts : Option ℕ → List ℕ → Status → Type 0) (tells : Type 0) (names : List (List ℕ)) (holds : List ℕ → List ℕ) (before now : ℕ) (refusal : Refusal) (status : Status) → HasText texts
      → ((name : List ℕ) → ReadsOf tells holds names (NotRead name) → (k : ℕ) × texts (Some k) (unread_line name) statuses.ReadFault)
      → ((name : List ℕ) (offset : ℕ) (cause : FileCause) → ReadsOf tells holds names (Refused name offset cause) → texts None (fault_line name offset cause) statuses.BadInput)
      → AreUpdatesRead tells names holds before now (Err refusal) → Ends stands faults old new (line_of refusal) (status_of refusal) status → Written texts (Rose before now) stands old new status
  files_refused texts tells names holds before now (Unread name) status has unread bad read ends =
      let text = unread name.now read.1 in
      unread_written texts (Rose before now) text.0 (unread_line name.now) status read.0 text.1 ends
  files_refused texts tells names holds before now (BadFile name fault) status has unread bad read ends =
      bad_written texts (Rose before now) (fault_line name.now fault.offset fault.cause) status (bad name.now fault.offset fault.cause read.1) ends
  files_refused texts tells names holds before now (BadTopology fault) status has unread bad read ends = absurd read
  files_refused texts tells names holds before now (BadScript fault) status has unread bad read ends = absurd read
  files_refused texts tells names holds before now (NoEntry number) status has unread bad read ends = absurd read
  files_refused texts tells names holds before now NoMemory status has unread bad read ends =
      memory_written texts (Rose before now) status has ends

  -- a run that did not get its topology, by texts in which such ends are
  pub topology_refused : (texts : List Read → Option ℕ → List ℕ → Status → Type 0) (tells : Type 0) (topology : List ℕ) (holds : List ℕ → List ℕ) (before now : ℕ) (refusal : Refusal) (status : Status)
      → ((reads : List Read) (files : Option ℕ) (text : List ℕ) (ends : Status) → FailsAt topology reads files text ends → texts reads files text ends) → HasText (FromReads (Unit {0}) holds texts)
      → IsTopologyRead tells topology (holds topology) before now (Err refusal) → Ends stands faults old new (line_of refusal) (status_of refusal) status → Written (FromReads tells holds texts) (Rose before now) stands old new status
  topology_refused texts tells topology holds before now (Unread name) status fails has read ends =
      unread_written (FromReads tells holds texts) (Rose before now) 0 (unread_line name.now) status read.0
      (record { reads = []; held = λ told. held_nil holds; is_text = fails [] (Some 0) (unread_line name.now) statuses.ReadFault (refl, refl, ap unread_line read.1) })
      ends
  topology_refused texts tells topology holds before now (BadFile name fault) status fails has read ends = absurd read
  topology_refused texts tells topology holds before now (BadTopology fault) status fails has read ends =
      let bytes = read.1.0 in
      let first : Read = record { name = topology; bytes = bytes } in
      bad_written (FromReads tells holds texts) (Rose before now) (topology_line fault.line fault.cause) status
      (record {
        reads = first ∷ [];
        held = λ told. held_one holds first (read.1.1 told);
        is_text = fails (first ∷ []) None (topology_line fault.line fault.cause) statuses.BadInput
            (record { bytes = bytes; only = refl; line = fault.line; cause = fault.cause; refuses = read.1.2; lines = refl });
      })
      ends
  topology_refused texts tells topology holds before now (BadScript fault) status fails has read ends = absurd read
  topology_refused texts tells topology holds before now (NoEntry number) status fails has read ends = absurd read
  topology_refused texts tells topology holds before now NoMemory status fails has read ends =
      memory_written (FromReads tells holds texts) (Rose before now) status (whether_told holds texts has) ends

-- a status that is no end of a run that could be done
not_end : (status : Status) → (code_of status ≡ 0 → ⊥) → (code_of status ≡ 4 → ⊥) → IsEnd status → ⊥
not_end status not_done not_unread (inl done) = not_done (ap code_of done)
not_end status not_done not_unread (inr unread) = not_unread (ap code_of unread)

-- a text of files that tell and can be done is no end but these
told_end : DoneWhereItCan → (tells : Type 0) (line : Asked) (holds : List ℕ → List ℕ) (files : Option ℕ) (text : List ℕ) (status : Status) → tells → CanBeDone line holds → FromReads tells holds (AskedText line) files text status → IsEnd status
told_end law tells line holds files text status tell can is = law line holds is.reads files text status can (is.held tell) is.is_text

-- what can be done is done, where no count of faults rose and memory is there
pub done_or_memory : DoneWhereItCan → {D : Type 0} (stands : D → List ℕ → Type 0) (old new : D) (tells : Type 0) (line : Asked) (holds : List ℕ → List ℕ) (rose : Type 0) (read wrote : ℕ × ℕ) (status : Status) → tells → CanBeDone line holds
    → Written (FromReads tells holds (AskedText line)) rose stands old new status → ReadCause read.0 read.1 status → WriteCause wrote.0 wrote.1 status → (Rose read.0 read.1 → ⊥) → (Rose wrote.0 wrote.1 → ⊥)
    → (status ≡ statuses.Done) ⊎ (status ≡ statuses.NoMemory)
done_or_memory law stands old new tells line holds rose read wrote statuses.Done tell can written rc wc no_read no_write = inl refl
done_or_memory law stands old new tells line holds rose read wrote (statuses.Usage k) tell can written rc wc no_read no_write =
    absurd (not_end (statuses.Usage k) (λ e. omega (arith, e)) (λ e. omega (arith, e)) (told_end law tells line holds written.files written.text _ tell can written.is_text))
done_or_memory law stands old new tells line holds rose read wrote statuses.BadInput tell can written rc wc no_read no_write =
    absurd (not_end statuses.BadInput (λ e. omega (arith, e)) (λ e. omega (arith, e)) (told_end law tells line holds written.files written.text _ tell can written.is_text))
done_or_memory law stands old new tells line holds rose read wrote statuses.Short tell can written rc wc no_read no_write =
    absurd (not_end statuses.Short (λ e. omega (arith, e)) (λ e. omega (arith, e)) (told_end law tells line holds written.files written.text _ tell can written.is_text))
done_or_memory law stands old new tells line holds rose read wrote statuses.ReadFault tell can written rc wc no_read no_write = absurd (no_read rc)
done_or_memory law stands old new tells line holds rose read wrote statuses.WriteFault tell can written rc wc no_read no_write = absurd (no_write wc)
done_or_memory law stands old new tells line holds rose read wrote (statuses.Panicked t) tell can written rc wc no_read no_write =
    absurd (not_end (statuses.Panicked t) (λ e. omega (arith, e)) (λ e. omega (arith, e)) (told_end law tells line holds written.files written.text _ tell can written.is_text))
done_or_memory law stands old new tells line holds rose read wrote statuses.NoMemory tell can written rc wc no_read no_write = inr refl
