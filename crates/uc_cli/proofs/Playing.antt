-- What a session that was played wrote, and why it ended.
use Rattle.std.proofs.Common.{◌≡◌, inl, inr, ℕ, ◌+◌, true, List, [], ◌∷◌, ◌++◌, length, Option, Err, IsSome, refl, sym, ◌∙◌, ap, subst, append_assoc}
use Rattle.std.specs.Prelude.{IsTrue}
use Rattle.std.proofs.lemmas.List.{append-nil}
use Rattle.uc_io.specs.Faults.{Rose}
use Rattle.uc_io.specs.Writing.{Grew}
use Rattle.uc_topology.specs.Stated.{Machine}
use Rattle.tool_text.specs.read_model.Accepts.{IsMachine}
use Rattle.tool_text.specs.read_model.Reads.{Read, AreHeld}
use Rattle.tool_text.proofs.read_model.Outcomes.{held_cons, held_one}
use Rattle.tool_text.specs.report_text.Lines.{unread_line}
use Rattle.tool_text.specs.script_text.Accepts.{IsScript}
use Rattle.tool_text.specs.script_text.Lines.{script_line}
use Rattle.tool_text.specs.script_text.Stated.{Stated}
use Rattle.tool_text.specs.session_text.declared.answers.SessionAnswer.{SessionAnswer}
use Rattle.tool_text.specs.session_text.declared.answers.SessionAnswer.TheVariants as session
use Rattle.tool_text.specs.session_steps.Did.{Did}
use Rattle.tool_text.specs.session_steps.Session.{Steps, texts_from, all_reads, session_answer}
use Rattle.tool_text.specs.session_steps.Calls.{Outside, HeldWhere, Surroundings}
use Rattle.tool_text.specs.session_steps.Played.{FileCause}
use Rattle.tool_text.specs.session_steps.Whole.{is_unread, PlaysWhole, PlaysFront, IsPlayedThrough}
use Rattle.status_rule.specs.declared.status.Status.{Status}
use Rattle.status_rule.specs.declared.status.Status.TheVariants as statuses
use Rattle.status_rule.specs.Causes.{ReadCause}
use Rattle.status_rule.specs.Written.{memory_line, GoesWith, HasText, WroteText, StartsText, Written, Ends}
use Rattle.tool_text.specs.Plays.{limits_of, setting_of, status_of, unread_after, PlayText}
use Rattle.tool_text.specs.Tool.{FromReads}
use Rattle.tool_laws.proofs.SomeText.{whether_told}
use Rattle.uc_cli.specs.Playing.{IsEnded}
use Rattle.uc_cli.specs.Reading.{IsScriptRead}
use Rattle.uc_cli.specs.Refusal as refusals
use Rattle.uc_cli.specs.Refusal.{line_of}
use Rattle.uc_cli.specs.declared.refusal.Refusal.{Refusal}
use Rattle.uc_cli.specs.declared.refusal.Refusal.TheVariants.{Unread, BadFile, BadTopology, BadScript, NoEntry, NoMemory}
use Rattle.uc_cli.proofs.Endings.{bad_written, unread_written, memory_written}

-- ---- answers

goes : (count : ℕ) (answer : SessionAnswer) → GoesWith (unread_after count answer) (status_of answer)
goes count session.Ended = tt
goes count session.Short = tt
goes count session.BadInput = tt
goes count session.ReadFault = tt
goes count session.WriteFault = tt
goes count (session.Panicked t) = tt
goes count session.NoMemory = tt

is_some_unread : (count : ℕ) (answer : SessionAnswer) → IsSome (unread_after count answer) → IsTrue (is_unread answer)
is_some_unread count session.Ended some = some
is_some_unread count session.Short some = some
is_some_unread count session.BadInput some = some
is_some_unread count session.ReadFault some = refl
is_some_unread count session.WriteFault some = some
is_some_unread count (session.Panicked t) some = some
is_some_unread count session.NoMemory some = some

-- an unread file exactly where the files' count rose
cause_of : (answer : SessionAnswer) (before now : ℕ) → FileCause (is_unread answer) before now → ReadCause before now (status_of answer)
cause_of session.Ended before now cause = cause
cause_of session.Short before now cause = cause
cause_of session.BadInput before now cause = cause
cause_of session.ReadFault before now cause = cause
cause_of session.WriteFault before now cause = tt
cause_of (session.Panicked t) before now cause = cause
cause_of session.NoMemory before now cause = tt

-- ---- the topology and the script that were read

pub record Opened (tells : Type 0) (holds : List ℕ → List ℕ) (topology script : List ℕ) (machine : Machine) (stated : Stated) : Type 0 where
  pub topology_bytes : List ℕ
  pub topology_held : tells → topology_bytes ≡ holds topology
  pub is_machine : IsMachine topology_bytes machine
  pub script_bytes : List ℕ
  pub script_held : tells → script_bytes ≡ holds script
  pub is_script : IsScript (limits_of machine) script_bytes stated

module _ (tells : Type 0) (holds : List ℕ → List ℕ) (topology script : List ℕ) where
  abbrev Texts : Option ℕ → List ℕ → Status → Type 0
  Texts = FromReads tells holds (PlayText topology script)

  -- the text of what the commands did
  text_of : (machine : Machine) (stated : Stated) → Opened tells holds topology script machine stated → (dids : List Did) → Steps true (setting_of machine stated) stated.commands dids → (tells → AreHeld holds (all_reads dids)) → (answer : SessionAnswer)
      → answer ≡ session_answer dids → Texts (unread_after (2 + length (all_reads dids)) answer) (texts_from 1 stated.commands dids) (status_of answer)
  text_of machine stated opened dids steps held answer is =
      let first : Read = record { name = topology; bytes = opened.topology_bytes } in
      let second : Read = record { name = script; bytes = opened.script_bytes } in
      record {
        reads = first ∷ second ∷ all_reads dids;
        held = λ tell. held_cons holds first (second ∷ all_reads dids) (opened.topology_held tell) (held_cons holds second (all_reads dids) (opened.script_held tell) (held tell));
        is_text = inr
            (record {
              machine = machine;
              behind = second ∷ all_reads dids;
              states = record { bytes = opened.topology_bytes; first = refl; is_machine = opened.is_machine };
              played = inr
                  (record {
                    bytes = opened.script_bytes;
                    behind = all_reads dids;
                    first = refl;
                    stated = stated;
                    is_script = opened.is_script;
                    answer = answer;
                    plays = record { dids = dids; steps = steps; all = refl; lines = refl; is_answer = is };
                    is_status = refl;
                    count = refl;
                  });
            });
      }

  module _ {D : Type 0} (stands : D → List ℕ → Type 0) (faults : D → ℕ) (machine : Machine) (stated : Stated) (opened : Opened tells holds topology script machine stated) (told : Type 0) (held : List ℕ → List ℕ) (still : tells → told) (same : held ≡ holds)
      (before now : Surroundings D) where
    abbrev outside : Outside D
    outside = record { stands = stands; faults = faults; lists = true; held = HeldWhere told held }

    held_by : (reads : List Read) → HeldWhere told held reads → tells → AreHeld holds reads
    held_by reads is tell = subst (λ (h : List ℕ → List ℕ). AreHeld h reads) same (is (still tell))

    whole : (answer : SessionAnswer) → PlaysWhole outside (setting_of machine stated) stated.commands before now answer → WroteText Texts stands before.sink now.sink (status_of answer)
    whole answer plays = record {
      files = unread_after (2 + length (all_reads plays.dids)) answer;
      text = texts_from 1 stated.commands plays.dids;
      is_text = text_of machine stated opened plays.dids plays.may.steps (held_by (all_reads plays.dids) plays.may.is_held) answer plays.is_answer;
      goes = goes (2 + length (all_reads plays.dids)) answer;
      grew = plays.grew;
    }

    starts : (plays : PlaysFront outside (setting_of machine stated) stated.commands before now) → StartsText Texts (Rose before.files now.files) plays.front
    starts plays =
        let answer = session_answer plays.dids in
        let count = 2 + length (all_reads plays.dids) in
        record {
          files = unread_after count answer;
          text = texts_from 1 stated.commands plays.dids;
          status = status_of answer;
          is_text = text_of machine stated opened plays.dids plays.may.steps (held_by (all_reads plays.dids) plays.may.is_held) answer refl;
          goes = goes count answer;
          by_fault = λ some. plays.by_fault (is_some_unread count answer some);
          is_front = plays.is_front;
        }

    grew_more : (new : D) (front line : List ℕ) → Grew stands before.sink now.sink front → Grew stands now.sink new line → Grew stands before.sink new (front ++ line)
    grew_more new front line first second = record {
      each = λ taken before. subst (stands new) (append_assoc taken front line) (second.each (taken ++ front) (first.each taken before));
    }

    written_so : (answer : SessionAnswer) (new : D) (status : Status) → IsPlayedThrough outside (setting_of machine stated) stated.commands before now answer
        → IsEnded stands faults now.sink new answer status → Written Texts (Rose before.files now.files) stands before.sink new status
    written_so session.Ended new status plays ended =
        subst (Written Texts (Rose before.files now.files) stands before.sink new) (sym ended.0) (subst (λ (d : D). WroteText Texts stands before.sink d statuses.Done) (sym ended.1) (whole session.Ended plays))
    written_so session.Short new status plays ended =
        subst (Written Texts (Rose before.files now.files) stands before.sink new) (sym ended.0) (subst (λ (d : D). WroteText Texts stands before.sink d statuses.Short) (sym ended.1) (whole session.Short plays))
    written_so session.BadInput new status plays ended =
        subst (Written Texts (Rose before.files now.files) stands before.sink new) (sym ended.0) (subst (λ (d : D). WroteText Texts stands before.sink d statuses.BadInput) (sym ended.1) (whole session.BadInput plays))
    written_so session.ReadFault new status plays ended =
        subst (Written Texts (Rose before.files now.files) stands before.sink new) (sym ended.0) (subst (λ (d : D). WroteText Texts stands before.sink d statuses.ReadFault) (sym ended.1) (whole session.ReadFault plays))
    written_so (session.Panicked t) new status plays ended =
        subst (Written Texts (Rose before.files now.files) stands before.sink new) (sym ended.0) (subst (λ (d : D). WroteText Texts stands before.sink d (statuses.Panicked t)) (sym ended.1) (whole (session.Panicked t) plays))
    written_so session.WriteFault new status plays ended =
        subst (Written Texts (Rose before.files now.files) stands before.sink new) (sym ended.0)
        (record {
          front = plays.0.front;
          line = [];
          starts = starts plays.0;
          of_line = (memory_line, refl);
          grew = subst (Grew stands before.sink new) (sym (append-nil plays.0.front)) (subst (λ (d : D). Grew stands before.sink d plays.0.front) (sym ended.1) plays.0.grew);
        })
    written_so session.NoMemory new status plays ended = elim ended.outcome [
      | inl all ↦
          subst (Written Texts (Rose before.files now.files) stands before.sink new) (sym all.0)
          (record { front = plays.front; starts = starts plays; grew = grew_more new plays.front memory_line plays.grew all.1 })
      | inr cut ↦
          subst (Written Texts (Rose before.files now.files) stands before.sink new) (sym cut.0)
          (record {
            front = plays.front;
            line = cut.1.front;
            starts = starts plays;
            of_line = (cut.1.rest, cut.1.split);
            grew = grew_more new plays.front cut.1.front plays.grew cut.1.grew;
          })
    ]

    -- a session that was played, after reads in which the files' count stayed
    pub session_written : (first : ℕ) → before.files ≡ first → (answer : SessionAnswer) (new : D) (status : Status) → IsPlayedThrough outside (setting_of machine stated) stated.commands before now answer
        → IsEnded stands faults now.sink new answer status → Written Texts (Rose first now.files) stands before.sink new status
    session_written first count answer new status plays ended =
        subst (λ (b : ℕ). Written Texts (Rose b now.files) stands before.sink new status) count (written_so answer new status plays ended)

  module _ {D : Type 0} (stands : D → List ℕ → Type 0) (faults : D → ℕ) (machine : Machine) (bytes : List ℕ) (is_held : tells → bytes ≡ holds topology) (is_machine : IsMachine bytes machine) (told : Type 0) (held : List ℕ → List ℕ) (still : tells → told)
      (same : held ≡ holds) (old new : D) (first before now : ℕ) (count : before ≡ first) (has : HasText (FromReads (Unit {0}) holds (PlayText topology script))) where
    abbrev topology_read : Read
    topology_read = record { name = topology; bytes = bytes }

    -- a run that did not get its script
    pub script_refused : (refusal : Refusal) (status : Status) → IsScriptRead told (limits_of machine) script (held script) before now (Err refusal) → Ends stands faults old new (line_of refusal) (refusals.status_of refusal) status
        → Written Texts (Rose first now) stands old new status
    script_refused (Unread which) status read ends =
        unread_written stands faults old new Texts (Rose first now) 1 (unread_line which.now) status (subst (λ (b : ℕ). Rose b now) count read.0)
        (record {
          reads = topology_read ∷ [];
          held = λ tell. held_one holds topology_read (is_held tell);
          is_text = inr
              (record {
                machine = machine;
                behind = [];
                states = record { bytes = bytes; first = refl; is_machine = is_machine };
                played = inl (refl, refl, ap unread_line read.1);
              });
        })
        ends
    script_refused (BadFile which fault) status read ends = absurd read
    script_refused (BadTopology fault) status read ends = absurd read
    script_refused (BadScript fault) status read ends =
        let second : Read = record { name = script; bytes = read.1.0 } in
        bad_written stands faults old new Texts (Rose first now) (script_line fault.line fault.cause) status
        (record {
          reads = topology_read ∷ second ∷ [];
          held = λ tell.
              held_cons holds topology_read (second ∷ []) (is_held tell) (held_one holds second (read.1.1 (still tell) ∙ ap (λ (h : List ℕ → List ℕ). h script) same));
          is_text = inr
              (record {
                machine = machine;
                behind = second ∷ [];
                states = record { bytes = bytes; first = refl; is_machine = is_machine };
                played = inl (record { bytes = read.1.0; only = refl; line = fault.line; cause = fault.cause; refuses = read.1.2; lines = refl });
              });
        })
        ends
    script_refused (NoEntry number) status read ends = absurd read
    script_refused NoMemory status read ends =
        memory_written stands faults old new Texts (Rose first now) status (whether_told holds (PlayText topology script) has) ends
