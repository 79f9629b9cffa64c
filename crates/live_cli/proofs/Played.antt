-- What a session wrote whose threads really run, and why it ended.
use Rattle.std.proofs.Common.{◌≡◌, inl, inr, ℕ, ◌+◌, ◌<◌, ◌≤◌, Bool, false, List, [], ◌∷◌, ◌++◌, length, Option, Some, None, Err, IsSome, refl, sym, ◌∙◌, ap, subst, append_assoc}
use Rattle.std.proofs.lemmas.List.{append-nil}
use Rattle.uc_io.specs.Faults.{Rose}
use Rattle.uc_io.specs.Writing.{Grew}
use Rattle.uc_topology.specs.declared.fault.TopoCause.TheVariants.{LiveLimit}
use Rattle.uc_topology.specs.Stated.{Machine}
use Rattle.read_model.specs.Accepts.{IsMachine}
use Rattle.read_model.specs.Reads.{Read, AreHeld}
use Rattle.read_model.proofs.Outcomes.{held_nil, held_cons, held_one}
use Rattle.tool_text.specs.rendezvous_rule.Runs.{RunOf}
use Rattle.tool_text.specs.report_text.Lines.{unread_line, usage_line, topology_line}
use Rattle.script_text.specs.Accepts.{IsScript}
use Rattle.script_text.specs.Lines.{script_line}
use Rattle.script_text.specs.Stated.{Stated}
use Rattle.session_text.specs.declared.answers.SessionAnswer.{SessionAnswer}
use Rattle.session_text.specs.declared.answers.SessionAnswer.TheVariants as session
use Rattle.tool_text.specs.session_steps.Did.{Did}
use Rattle.tool_text.specs.session_steps.Session.{Steps, texts_from, all_reads, all_runs, session_answer}
use Rattle.tool_text.specs.session_steps.Calls.{Outside, HeldWhere, Surroundings}
use Rattle.tool_text.specs.session_steps.Whole.{PlaysWhole, PlaysFront, IsPlayedThrough}
use Rattle.status_rule.specs.declared.status.Status.{Status}
use Rattle.status_rule.specs.declared.status.Status.TheVariants as statuses
use Rattle.status_rule.specs.Status.{RanToItsEnd}
use Rattle.status_rule.specs.Written.{memory_line, GoesWith, HasText, WroteText, StartsText, Written, Ends}
use Rattle.tool_text.specs.Plays.{limits_of, setting_of, status_of, unread_after}
use Rattle.tool_text.specs.Words.{Faulty}
use Rattle.uc_cli.specs.Playing.{IsEnded}
use Rattle.uc_cli.specs.Reading.{IsTopologyRead, IsScriptRead}
use Rattle.uc_cli.specs.Refusal as refusals
use Rattle.uc_cli.specs.Refusal.{line_of}
use Rattle.uc_cli.specs.declared.refusal.Refusal.{Refusal}
use Rattle.uc_cli.specs.declared.refusal.Refusal.TheVariants.{Unread, BadFile, BadTopology, BadScript, NoEntry, NoMemory}
use Rattle.live_cli.specs.Texts.{Course, FromRuns, KeptBy, SessionText, AskedText}
use Rattle.live_cli.proofs.Ended.{goes, is_some_unread, no_file}
use Rattle.live_cli.proofs.SomeText.{AnyRuns}

-- the topology and the script that were read, for few enough threads
pub record Opened (tells : Type 0) (holds : List ℕ → List ℕ) (most : ℕ) (topology script : List ℕ) (machine : Machine) (stated : Stated) : Type 0 where
  pub topology_bytes : List ℕ
  pub topology_held : tells → topology_bytes ≡ holds topology
  pub is_machine : IsMachine topology_bytes machine
  pub few : length machine.stated.threads ≤ most
  pub script_bytes : List ℕ
  pub script_held : tells → script_bytes ≡ holds script
  pub is_script : IsScript (limits_of machine) script_bytes stated

-- ---- what is kept of the runs

abbrev Grown : Bool → List RunOf → List RunOf → List RunOf → Type 0
Grown lists before now runs = lists ≡ false → now ≡ before ++ runs

-- where no rendezvous was held, nothing more is kept
none_held : (lists : Bool) (before : List RunOf) → Grown lists before before []
none_held lists before = λ silent. sym (append-nil before)

-- ---- a run whose last lines were written

module _ {D : Type 0} (tells : Type 0) (holds : List ℕ → List ℕ) (texts : Course → Option ℕ → List ℕ → Status → Type 0)
    (lists : Bool) (before now : List RunOf) (rose : Type 0) (stands : D → List ℕ → Type 0) (faults : D → ℕ) (old new : D) where
  -- what a run wrote, with what is kept of its runs
  abbrev pub WrittenBy : Status → Type 0
  WrittenBy status = Written (FromRuns tells holds (KeptBy lists before now status) texts) rose stands old new status

  abbrev pub Whole : Option ℕ → List ℕ → Status → Type 0
  Whole = FromRuns tells holds (Grown lists before now) texts

  forget : (files : Option ℕ) (text : List ℕ) (status : Status) → Whole files text status → FromRuns tells holds AnyRuns texts files text status
  forget files text status is = record { course = is.course; held = is.held; is_kept = tt; is_text = is.is_text }

  -- a whole text is what a run that came to its end wrote
  written_whole : (status : Status) → RanToItsEnd status → WroteText Whole stands old new status → WrittenBy status
  written_whole statuses.Done ran wrote = wrote
  written_whole (statuses.Usage k) ran wrote = wrote
  written_whole statuses.BadInput ran wrote = wrote
  written_whole statuses.Short ran wrote = wrote
  written_whole statuses.ReadFault ran wrote = wrote
  written_whole statuses.WriteFault ran wrote = absurd ran
  written_whole (statuses.Panicked t) ran wrote = wrote
  written_whole statuses.NoMemory ran wrote = absurd ran

  pub ends_written : (files : Option ℕ) (text : List ℕ) (meant status : Status) → RanToItsEnd meant → Whole files text meant → GoesWith files meant → (IsSome files → rose)
      → Ends stands faults old new text meant status → WrittenBy status
  ends_written files text meant status ran is_text goes_with by_fault ends = elim ends.outcome [
    | inl whole ↦
        subst WrittenBy (sym whole.0) (written_whole meant ran (record { files = files; text = text; is_text = is_text; goes = goes_with; grew = whole.1 }))
    | inr cut ↦
        subst WrittenBy (sym cut.0)
        (record {
          front = cut.1.front;
          line = [];
          starts = record { files = files; text = text; status = meant; is_text = forget files text meant is_text; goes = goes_with; by_fault = by_fault; is_front = (cut.1.rest, cut.1.split) };
          of_line = (memory_line, refl);
          grew = subst (Grew stands old new) (sym (append-nil cut.1.front)) cut.1.grew;
        })
  ]

  -- a run that wrote nothing before memory ran out
  pub memory_written : (status : Status) → HasText (FromRuns (Unit {0}) holds AnyRuns texts) → Ends stands faults old new memory_line statuses.NoMemory status → WrittenBy status
  memory_written status has ends =
      let starts : StartsText (FromRuns tells holds AnyRuns texts) rose [] =
      record {
        files = None;
        text = has.text;
        status = has.status;
        is_text = record { course = has.is_text.course; held = λ told. has.is_text.held tt; is_kept = tt; is_text = has.is_text.is_text };
        goes = has.goes;
        by_fault = λ some. no_file some;
        is_front = (has.text, refl);
      } in
      elim ends.outcome [
        | inl whole ↦ subst WrittenBy (sym whole.0) (record { front = []; starts = starts; grew = whole.1 })
        | inr cut ↦
            subst WrittenBy (sym cut.0)
            (record { front = []; line = cut.1.front; starts = starts; of_line = (cut.1.rest, cut.1.split); grew = cut.1.grew })
      ]

-- ---- a command line that breaks the rule

pub faulty_written : {D : Type 0} (tells : Type 0) (holds : List ℕ → List ℕ) (lists : Bool) (most : ℕ) (before : List RunOf) (rose : Type 0) (stands : D → List ℕ → Type 0) (faults : D → ℕ) (old new : D) (index : ℕ) (status : Status)
    → Ends stands faults old new (usage_line index) (statuses.Usage index) status → WrittenBy tells holds (AskedText (record { lists = lists; most = most }) (Faulty index)) lists before before rose stands faults old new status
faulty_written tells holds lists most before rose stands faults old new index status ends =
    ends_written tells holds (AskedText (record { lists = lists; most = most }) (Faulty index)) lists before before rose stands faults old new None (usage_line index) (statuses.Usage index) status tt
    (record { course = record { reads = []; runs = [] }; held = λ told. held_nil holds; is_kept = none_held lists before; is_text = (refl, refl, refl, refl) })
    tt
    no_file
    ends

-- ---- a session

module _ (tells : Type 0) (holds : List ℕ → List ℕ) (lists : Bool) (most : ℕ) (topology script : List ℕ) where
  abbrev Texts : Course → Option ℕ → List ℕ → Status → Type 0
  Texts = SessionText (record { lists = lists; most = most }) topology script

  -- the text of what the commands did
  text_of : (kept : List RunOf → Type 0) (machine : Machine) (stated : Stated) → Opened tells holds most topology script machine stated → (dids : List Did) → Steps lists (setting_of machine stated) stated.commands dids
      → (tells → AreHeld holds (all_reads dids)) → (answer : SessionAnswer) → answer ≡ session_answer dids → kept (all_runs dids)
      → FromRuns tells holds kept Texts (unread_after (2 + length (all_reads dids)) answer) (texts_from 1 stated.commands dids) (status_of answer)
  text_of kept machine stated opened dids steps held answer is is_kept =
      let first : Read = record { name = topology; bytes = opened.topology_bytes } in
      let second : Read = record { name = script; bytes = opened.script_bytes } in
      record {
        course = record { reads = first ∷ second ∷ all_reads dids; runs = all_runs dids };
        held = λ tell. held_cons holds first (second ∷ all_reads dids) (opened.topology_held tell) (held_cons holds second (all_reads dids) (opened.script_held tell) (held tell));
        is_kept = is_kept;
        is_text = inr
            (inr
            (record {
              machine = machine;
              behind = second ∷ all_reads dids;
              states = record { bytes = opened.topology_bytes; first = refl; is_machine = opened.is_machine };
              few = opened.few;
              played = inr
                  (record {
                    bytes = opened.script_bytes;
                    behind = all_reads dids;
                    first = refl;
                    stated = stated;
                    is_script = opened.is_script;
                    answer = answer;
                    plays = record { dids = dids; steps = steps; all = refl; held = refl; lines = refl; is_answer = is };
                    is_status = refl;
                    count = refl;
                  });
            }));
      }

  module _ {D : Type 0} (stands : D → List ℕ → Type 0) (faults : D → ℕ) (machine : Machine) (stated : Stated) (opened : Opened tells holds most topology script machine stated) (told : Type 0) (held : List ℕ → List ℕ) (still : tells → told) (same : held ≡ holds)
      (before now : Surroundings D) where
    abbrev outside : Outside D
    outside = record { stands = stands; faults = faults; lists = lists; held = HeldWhere told held }

    held_by : (reads : List Read) → HeldWhere told held reads → tells → AreHeld holds reads
    held_by reads is tell = subst (λ (h : List ℕ → List ℕ). AreHeld h reads) same (is (still tell))

    abbrev By : D → Status → Type 0
    By new status = WrittenBy tells holds Texts lists before.runs now.runs (Rose before.files now.files) stands faults before.sink new status

    whole : (answer : SessionAnswer) → PlaysWhole outside (setting_of machine stated) stated.commands before now answer → WroteText (Whole tells holds Texts lists before.runs now.runs (Rose before.files now.files) stands faults before.sink now.sink) stands before.sink now.sink (status_of answer)
    whole answer plays = record {
      files = unread_after (2 + length (all_reads plays.dids)) answer;
      text = texts_from 1 stated.commands plays.dids;
      is_text = text_of (Grown lists before.runs now.runs) machine stated opened plays.dids plays.may.steps (held_by (all_reads plays.dids) plays.may.is_held) answer plays.is_answer plays.kept;
      goes = goes (2 + length (all_reads plays.dids)) answer;
      grew = plays.grew;
    }

    starts : (plays : PlaysFront outside (setting_of machine stated) stated.commands before now) → StartsText (FromRuns tells holds AnyRuns Texts) (Rose before.files now.files) plays.front
    starts plays =
        let answer = session_answer plays.dids in
        let count = 2 + length (all_reads plays.dids) in
        record {
          files = unread_after count answer;
          text = texts_from 1 stated.commands plays.dids;
          status = status_of answer;
          is_text = text_of AnyRuns machine stated opened plays.dids plays.may.steps (held_by (all_reads plays.dids) plays.may.is_held) answer refl tt;
          goes = goes count answer;
          by_fault = λ some. plays.by_fault (is_some_unread count answer some);
          is_front = plays.is_front;
        }

    grew_more : (new : D) (front line : List ℕ) → Grew stands before.sink now.sink front → Grew stands now.sink new line → Grew stands before.sink new (front ++ line)
    grew_more new front line first second = record {
      each = λ taken before. subst (stands new) (append_assoc taken front line) (second.each (taken ++ front) (first.each taken before));
    }

    -- a session that came to its end writes nothing more
    ended : (answer : SessionAnswer) (new : D) (status : Status) → By now.sink (status_of answer) → (status ≡ status_of answer) × (new ≡ now.sink) → By new status
    ended answer new status written is =
        subst (By new) (sym is.0) (subst (λ (d : D). By d (status_of answer)) (sym is.1) written)

    written_so : (answer : SessionAnswer) (new : D) (status : Status) → IsPlayedThrough outside (setting_of machine stated) stated.commands before now answer
        → IsEnded stands faults now.sink new answer status → By new status
    written_so session.Ended new status plays is = ended session.Ended new status (whole session.Ended plays) is
    written_so session.Short new status plays is = ended session.Short new status (whole session.Short plays) is
    written_so session.BadInput new status plays is = ended session.BadInput new status (whole session.BadInput plays) is
    written_so session.ReadFault new status plays is = ended session.ReadFault new status (whole session.ReadFault plays) is
    written_so (session.Panicked t) new status plays is = ended (session.Panicked t) new status (whole (session.Panicked t) plays) is
    written_so session.WriteFault new status plays is =
        ended session.WriteFault new status
        (record {
          front = plays.0.front;
          line = [];
          starts = starts plays.0;
          of_line = (memory_line, refl);
          grew = subst (Grew stands before.sink now.sink) (sym (append-nil plays.0.front)) plays.0.grew;
        })
        is
    written_so session.NoMemory new status plays is = elim is.outcome [
      | inl all ↦
          subst (By new) (sym all.0)
          (record { front = plays.front; starts = starts plays; grew = grew_more new plays.front memory_line plays.grew all.1 })
      | inr cut ↦
          subst (By new) (sym cut.0)
          (record {
            front = plays.front;
            line = cut.1.front;
            starts = starts plays;
            of_line = (cut.1.rest, cut.1.split);
            grew = grew_more new plays.front cut.1.front plays.grew cut.1.grew;
          })
    ]

    -- a session that was played, after reads in which the files' count stayed
    pub session_written : (first : ℕ) → before.files ≡ first → (answer : SessionAnswer) (new : D) (status : Status) → IsPlayedThrough outside (setting_of machine stated) stated.commands before now answer
        → IsEnded stands faults now.sink new answer status → WrittenBy tells holds Texts lists before.runs now.runs (Rose first now.files) stands faults before.sink new status
    session_written first count answer new status plays is =
        subst (λ (b : ℕ). WrittenBy tells holds Texts lists before.runs now.runs (Rose b now.files) stands faults before.sink new status) count (written_so answer new status plays is)

  -- ---- what has no session

  module _ {D : Type 0} (stands : D → List ℕ → Type 0) (faults : D → ℕ) (runs : List RunOf) (old new : D) (first : ℕ) (has : HasText (FromRuns (Unit {0}) holds AnyRuns Texts)) where
    abbrev WithNone : ℕ → Status → Type 0
    WithNone now status = WrittenBy tells holds Texts lists runs runs (Rose first now) stands faults old new status

    ends_so : (now : ℕ) (files : Option ℕ) (text : List ℕ) (meant status : Status) → RanToItsEnd meant → Whole tells holds Texts lists runs runs (Rose first now) stands faults old new files text meant → GoesWith files meant
        → (IsSome files → Rose first now) → Ends stands faults old new text meant status → WithNone now status
    ends_so now = ends_written tells holds Texts lists runs runs (Rose first now) stands faults old new

    -- a run that did not get its topology
    pub topology_refused : (now : ℕ) (refusal : Refusal) (status : Status) → IsTopologyRead tells topology (holds topology) first now (Err refusal) → Ends stands faults old new (line_of refusal) (refusals.status_of refusal) status → WithNone now status
    topology_refused now (Unread name) status read ends =
        ends_so now (Some 0) (unread_line name.now) statuses.ReadFault status tt
        (record { course = record { reads = []; runs = [] }; held = λ tell. held_nil holds; is_kept = none_held lists runs; is_text = inl (refl, (refl, refl, ap unread_line read.1)) })
        tt
        (λ some. read.0)
        ends
    topology_refused now (BadFile name fault) status read ends = absurd read
    topology_refused now (BadTopology fault) status read ends =
        let one : Read = record { name = topology; bytes = read.1.0 } in
        ends_so now None (topology_line fault.line fault.cause) statuses.BadInput status tt
        (record {
          course = record { reads = one ∷ []; runs = [] };
          held = λ tell. held_one holds one (read.1.1 tell);
          is_kept = none_held lists runs;
          is_text = inl (refl, record { bytes = read.1.0; only = refl; line = fault.line; cause = fault.cause; refuses = read.1.2; lines = refl });
        })
        tt
        no_file
        ends
    topology_refused now (BadScript fault) status read ends = absurd read
    topology_refused now (NoEntry number) status read ends = absurd read
    topology_refused now NoMemory status read ends =
        memory_written tells holds Texts lists runs runs (Rose first now) stands faults old new status has ends

    module _ (machine : Machine) (bytes : List ℕ) (is_held : tells → bytes ≡ holds topology) (is_machine : IsMachine bytes machine) where
      abbrev topology_read : Read
      topology_read = record { name = topology; bytes = bytes }

      -- a machine with too many threads
      pub too_many_written : (now : ℕ) (status : Status) → most < length machine.stated.threads → Ends stands faults old new (topology_line 0 LiveLimit) statuses.BadInput status → WithNone now status
      too_many_written now status many ends =
          ends_so now None (topology_line 0 LiveLimit) statuses.BadInput status tt
          (record {
            course = record { reads = topology_read ∷ []; runs = [] };
            held = λ tell. held_one holds topology_read (is_held tell);
            is_kept = none_held lists runs;
            is_text = inr
                (inl (refl, record { machine = machine; states = record { bytes = bytes; first = refl; is_machine = is_machine }; many = many; lines = refl }));
          })
          tt
          no_file
          ends

      module _ (few : length machine.stated.threads ≤ most) (told : Type 0) (held : List ℕ → List ℕ) (still : tells → told) (same : held ≡ holds) (before now : ℕ) (count : before ≡ first) where
        -- a run that did not get its script
        pub script_refused : (refusal : Refusal) (status : Status) → IsScriptRead told (limits_of machine) script (held script) before now (Err refusal) → Ends stands faults old new (line_of refusal) (refusals.status_of refusal) status
            → WithNone now status
        script_refused (Unread which) status read ends =
            ends_so now (Some 1) (unread_line which.now) statuses.ReadFault status tt
            (record {
              course = record { reads = topology_read ∷ []; runs = [] };
              held = λ tell. held_one holds topology_read (is_held tell);
              is_kept = none_held lists runs;
              is_text = inr
                  (inr
                  (record {
                    machine = machine;
                    behind = [];
                    states = record { bytes = bytes; first = refl; is_machine = is_machine };
                    few = few;
                    played = inl (refl, (refl, refl, ap unread_line read.1));
                  }));
            })
            tt
            (λ some. subst (λ (b : ℕ). Rose b now) count read.0)
            ends
        script_refused (BadFile which fault) status read ends = absurd read
        script_refused (BadTopology fault) status read ends = absurd read
        script_refused (BadScript fault) status read ends =
            let second : Read = record { name = script; bytes = read.1.0 } in
            ends_so now None (script_line fault.line fault.cause) statuses.BadInput status tt
            (record {
              course = record { reads = topology_read ∷ second ∷ []; runs = [] };
              held = λ tell.
                  held_cons holds topology_read (second ∷ []) (is_held tell) (held_one holds second (read.1.1 (still tell) ∙ ap (λ (h : List ℕ → List ℕ). h script) same));
              is_kept = none_held lists runs;
              is_text = inr
                  (inr
                  (record {
                    machine = machine;
                    behind = second ∷ [];
                    states = record { bytes = bytes; first = refl; is_machine = is_machine };
                    few = few;
                    played = inl
                        (refl, record { bytes = read.1.0; only = refl; line = fault.line; cause = fault.cause; refuses = read.1.2; lines = refl });
                  }));
            })
            tt
            no_file
            ends
        script_refused (NoEntry number) status read ends = absurd read
        script_refused NoMemory status read ends =
            memory_written tells holds Texts lists runs runs (Rose first now) stands faults old new status has ends
