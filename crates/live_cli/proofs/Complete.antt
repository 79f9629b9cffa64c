-- Where what a command line asks for can be done, and no rendezvous is late, a run that no failed read ends does it.
use Rattle.std.proofs.Common.{◌≡◌, ◌⊎◌, inl, inr, ℕ, ◌≤◌, Bool, false, List, [], ◌∷◌, ◌++◌, length, drop, Option, Some, None, refl, sym, ap, ◌∙◌, subst, arith}
use Rattle.std.specs.Prelude.{All}
use Rattle.std.proofs.Math.Seq.{drop-append_seam}
use Rattle.uc_io.specs.Faults.{Rose}
use Rattle.uc_topology.specs.Stated.{Machine}
use Rattle.uc_topology.specs.Texts as topology_texts
use Rattle.uc_topology.proofs.Laws.{one_machine}
use Rattle.tool_text.specs.rendezvous_rule.Runs.{RunOf}
use Rattle.round_laws.specs.Laws.{VerdictIsOne}
use Rattle.play_laws.specs.Patient.{InTimeIsDone, PatientIsDone}
use Rattle.script_text.specs.declared.command.Command.{Command}
use Rattle.script_text.specs.declared.fault.ScriptCause.{ScriptCause}
use Rattle.script_text.specs.declared.forms.Limits.{Limits}
use Rattle.script_text.specs.Stated.{Stated}
use Rattle.script_text.specs.Texts.{States}
use Rattle.script_text.proofs.OneReading.{one_script, never_both as never_both_script}
use Rattle.script_text.specs.Accepts.{IsScript, RefusesScript}
use Rattle.session_text.specs.declared.answers.SessionAnswer.{SessionAnswer}
use Rattle.tool_text.specs.session_steps.State.{Setting, opening_state}
use Rattle.tool_text.specs.session_steps.Did.{Did}
use Rattle.tool_text.specs.session_steps.Session.{Steps, all_reads, all_runs, session_answer}
use Rattle.read_model.specs.Accepts.{IsMachine}
use Rattle.read_model.specs.Reads.{Read, AreHeld}
use Rattle.read_model.proofs.Outcomes.{held_head, held_tail}
use Rattle.status_rule.specs.declared.status.Status.{Status}
use Rattle.status_rule.specs.declared.status.Status.TheVariants.{BadInput, ReadFault}
use Rattle.status_rule.specs.declared.status.Status.TheVariants as statuses
use Rattle.status_rule.specs.Causes.{ReadCause, WriteCause}
use Rattle.status_rule.specs.Written.{Written}
use Rattle.tool_text.specs.Words.{Asked, SelectOf, PlayOf}
use Rattle.tool_text.specs.Plays.{limits_of, setting_of, status_of, ScriptFailsAt}
use Rattle.tool_laws.proofs.Complete.{IsEnd, complete as ends_with}
use Rattle.live_cli.specs.Able.{CanDoAll, CanBeDone, AreInTime}
use Rattle.live_cli.specs.Texts.{Course, FromRuns, KeptBy, AskedText, SessionText, TooManyAt, PlaysFor, PlaysScript}
use Rattle.live_cli.proofs.Able.{IsFine, IsInTime, all_done_in_time}

fine_end : (answer : SessionAnswer) → IsFine answer → IsEnd (status_of answer)
fine_end answer (inl is) = inl (ap status_of is)
fine_end answer (inr is) = inr (ap status_of is)

-- a script that states commands is not refused
script_not_refused : (limits : Limits) (bytes : List ℕ) (stated : Stated) (line : ℕ) (cause : ScriptCause) → IsScript limits bytes stated → RefusesScript limits bytes line cause → ⊥
script_not_refused limits bytes stated line cause is (inl long) = omega (arith, long.0, is.within)
script_not_refused limits bytes stated line cause is (inr fault) =
    never_both_script limits bytes stated (record { line = line; cause = cause }) is.states fault.1

module _ (patient : PatientIsDone) (one_verdict : VerdictIsOne) (in_time : InTimeIsDone) (holds : List ℕ → List ℕ) where
  -- ---- a session

  ended_end : (setting : Setting) (commands : List Command) (dids : List Did) (runs : List RunOf) (answer : SessionAnswer)
      (status : Status) → CanDoAll setting (opening_state setting) commands holds →
      AreHeld holds (all_reads dids) → Steps false setting commands dids → runs ≡ all_runs dids → All IsInTime runs →
      answer ≡ session_answer dids → status ≡ status_of answer → IsEnd status
  ended_end setting commands dids runs answer status can held steps are timely is_answer is_status =
      subst IsEnd (sym (is_status ∙ ap status_of is_answer))
      (fine_end (session_answer dids)
      (all_done_in_time patient one_verdict in_time setting holds dids (opening_state setting) commands held
      (subst (All IsInTime) are timely) can steps))

  -- the script that was read is the one that can be played
  script_ends : (script : List ℕ) (machine : Machine) (behind : List Read) (runs : List RunOf) (files : Option ℕ)
      (text : List ℕ) (status : Status) (stated : Stated) → AreHeld holds behind → All IsInTime runs →
      IsScript (limits_of machine) (holds script) stated →
      CanDoAll (setting_of machine stated) (opening_state (setting_of machine stated)) stated.commands holds →
      ((runs ≡ []) × ScriptFailsAt script machine behind files text status)
      ⊎ PlaysScript false script machine (record { reads = behind; runs = runs }) files text status → IsEnd status
  script_ends script machine behind runs (Some k) text ReadFault stated held timely is can (inl fails) = inr refl
  script_ends script machine behind runs None text BadInput stated held timely is can (inl fails) =
      let refusal = fails.1 in
      let read : Read = record { name = script; bytes = refusal.bytes } in
      let gave : refusal.bytes ≡ holds script = held_head holds read [] (subst (AreHeld holds) refusal.only held) in
      absurd (script_not_refused (limits_of machine) (holds script) stated refusal.line refusal.cause is
      (subst (λ (bytes : List ℕ). RefusesScript (limits_of machine) bytes refusal.line refusal.cause) gave refusal.refuses))
  script_ends script machine behind runs files text status stated held timely is can (inl fails) = absurd fails.1
  script_ends script machine behind runs files text status stated held timely is can (inr plays) =
      let read : Read = record { name = script; bytes = plays.bytes } in
      let all : AreHeld holds (read ∷ plays.behind) = subst (AreHeld holds) plays.first held in
      let gave : plays.bytes ≡ holds script = held_head holds read plays.behind all in
      let same : stated ≡ plays.stated =
      one_script (limits_of machine) (holds script) stated plays.stated is.states
      (subst (λ (bytes : List ℕ). States (limits_of machine) bytes plays.stated) gave plays.is_script.states) in
      ended_end (setting_of machine plays.stated) plays.stated.commands plays.plays.dids runs plays.answer status
      (subst (λ (s : Stated). CanDoAll (setting_of machine s) (opening_state (setting_of machine s)) s.commands holds) same can)
      (subst (AreHeld holds) plays.plays.all (held_tail holds read plays.behind all)) plays.plays.steps plays.plays.held
      timely plays.plays.is_answer plays.is_status

  module _ (most : ℕ) (course : Course) (held : AreHeld holds course.reads) (topology script : List ℕ)
      (can : CanBeDone most (PlayOf topology script) holds) where
    -- the machine of the topology that was read
    machine_is : (machine : Machine) (bytes : List ℕ) (behind : List Read) → course.reads ≡ record { name = topology; bytes = bytes } ∷ behind →
        IsMachine bytes machine → can.0 ≡ machine
    machine_is machine bytes behind first is =
        let gave : bytes ≡ holds topology =
        held_head holds (record { name = topology; bytes = bytes }) behind (subst (AreHeld holds) first held) in
        one_machine (holds topology) can.0 machine can.1.states
        (subst (λ (bytes : List ℕ). topology_texts.States bytes machine) gave is.states)

    too_many_ends : (files : Option ℕ) (text : List ℕ) (status : Status) → TooManyAt most topology course.reads files text status → IsEnd status
    too_many_ends None text BadInput is =
        let same = machine_is is.machine is.states.bytes [] is.states.first is.states.is_machine in
        let few : length is.machine.stated.threads ≤ most =
        subst (λ (machine : Machine). length machine.stated.threads ≤ most) same can.2 in
        absurd (omega (arith, few, is.many))
    too_many_ends files text status is = absurd is

    played_ends : (files : Option ℕ) (text : List ℕ) (status : Status) → All IsInTime course.runs →
        PlaysFor (record { lists = false; most = most }) topology script course files text status → IsEnd status
    played_ends files text status timely plays =
        let read : Read = record { name = topology; bytes = plays.states.bytes } in
        let all : AreHeld holds (read ∷ plays.behind) = subst (AreHeld holds) plays.states.first held in
        let same = machine_is plays.machine plays.states.bytes plays.behind plays.states.first plays.states.is_machine in
        let stated : Stated = can.3.0 in
        script_ends script plays.machine plays.behind course.runs files text status stated (held_tail holds read plays.behind all) timely
        (subst (λ (machine : Machine). IsScript (limits_of machine) (holds script) stated) same can.3.1)
        (subst (λ (machine : Machine). CanDoAll (setting_of machine stated) (opening_state (setting_of machine stated)) stated.commands holds) same can.3.2)
        plays.played

    session_ends : (files : Option ℕ) (text : List ℕ) (status : Status) → All IsInTime course.runs →
        SessionText (record { lists = false; most = most }) topology script course files text status → IsEnd status
    session_ends files text status timely (inl fails) =
        ends_with patient one_verdict holds course.reads held (SelectOf topology []) files text status (can.0, can.1, ([], tt))
        (inl fails.1)
    session_ends files text status timely (inr (inl many)) = too_many_ends files text status many.1
    session_ends files text status timely (inr (inr plays)) = played_ends files text status timely plays

  asked_ends : (most : ℕ) (line : Asked) (course : Course) (files : Option ℕ) (text : List ℕ) (status : Status)
      → AreHeld holds course.reads → CanBeDone most line holds → All IsInTime course.runs →
      AskedText (record { lists = false; most = most }) line course files text status → IsEnd status
  asked_ends most (PlayOf topology script) course files text status held can timely is =
      session_ends most course held topology script can files text status timely is
  asked_ends most line course files text status held can timely is = absurd can

  -- ---- what a run ended with

  abbrev Grown : List RunOf → List RunOf → List RunOf → Type 0
  Grown before now runs = now ≡ before ++ runs

  timely_runs : (before now runs : List RunOf) → AreInTime before now → now ≡ before ++ runs → All IsInTime runs
  timely_runs before now runs timely grown =
      subst (All IsInTime) (ap (drop (length before)) grown ∙ drop-append_seam before runs) timely

  module _ (tells : Type 0) (tell : tells) (lists : Bool) (silent : lists ≡ false) (most : ℕ) (line : Asked)
      (can : CanBeDone most line holds) (before now : List RunOf) (timely : AreInTime before now) where
    -- a whole text of files that tell is that of a run that did all, or of one in which a read failed
    told_end : (files : Option ℕ) (text : List ℕ) (status : Status) →
        FromRuns tells holds (λ runs. lists ≡ false → Grown before now runs) (AskedText (record { lists = lists; most = most }) line) files text status →
        IsEnd status
    told_end files text status is =
        asked_ends most line is.course files text status (is.held tell) can
        (timely_runs before now is.course.runs timely (is.is_kept silent))
        (subst (λ (l : Bool). AskedText (record { lists = l; most = most }) line is.course files text status) silent is.is_text)

    -- what can be done is done, where no count of faults rose and memory is there
    pub done_or_memory : {D : Type 0} (stands : D → List ℕ → Type 0) (old new : D) (rose : Type 0) (read wrote : ℕ × ℕ) (status : Status)
        → Written (FromRuns tells holds (KeptBy lists before now status) (AskedText (record { lists = lists; most = most }) line)) rose stands old new status
        → ReadCause read.0 read.1 status → WriteCause wrote.0 wrote.1 status → (Rose read.0 read.1 → ⊥) → (Rose wrote.0 wrote.1 → ⊥)
        → (status ≡ statuses.Done) ⊎ (status ≡ statuses.NoMemory)
    done_or_memory stands old new rose read wrote statuses.Done written rc wc no_read no_write = inl refl
    done_or_memory stands old new rose read wrote statuses.NoMemory written rc wc no_read no_write = inr refl
    done_or_memory stands old new rose read wrote statuses.WriteFault written rc wc no_read no_write = absurd (no_write wc)
    done_or_memory stands old new rose read wrote statuses.ReadFault written rc wc no_read no_write = absurd (no_read rc)
    done_or_memory stands old new rose read wrote (statuses.Usage k) written rc wc no_read no_write =
        let wrong = told_end written.files written.text (statuses.Usage k) written.is_text in
        elim wrong [ inl done ↦ absurd cc | inr unread ↦ absurd cc ]
    done_or_memory stands old new rose read wrote statuses.BadInput written rc wc no_read no_write =
        let wrong = told_end written.files written.text statuses.BadInput written.is_text in
        elim wrong [ inl done ↦ absurd cc | inr unread ↦ absurd cc ]
    done_or_memory stands old new rose read wrote statuses.Short written rc wc no_read no_write =
        let wrong = told_end written.files written.text statuses.Short written.is_text in
        elim wrong [ inl done ↦ absurd cc | inr unread ↦ absurd cc ]
    done_or_memory stands old new rose read wrote (statuses.Panicked t) written rc wc no_read no_write =
        let wrong = told_end written.files written.text (statuses.Panicked t) written.is_text in
        elim wrong [ inl done ↦ absurd cc | inr unread ↦ absurd cc ]
