-- A session that can be done is done where no rendezvous is late, but where a file is not read.
use Rattle.std.proofs.Common.{◌≡◌, ◌⊎◌, inl, inr, ℕ, suc, ◌+◌, ◌*◌, ◌<◌, ◌≤◌, Bool, true, false, ◌&&◌, if◌then◌else◌, List, [], ◌∷◌, ◌++◌, length, map, get_or, Option, Some, None, refl, sym, ap, ◌∙◌, subst, arith, length-append}
use Rattle.std.specs.Prelude.{All}
use Rattle.std.proofs.lemmas.Bool.{cases_lt, lt-ltb, false≢true}
use Rattle.std.proofs.lemmas.List.{append-nil, get_or_append_left, get_or-append-add}
use Rattle.std.proofs.lemmas.List.Elements.{All-nil, All-cons, All-head, All-tail}
use Rattle.tool_text.specs.entry_model.declared.facts.CoreFacts.{CoreFacts}
use Rattle.tool_text.specs.entry_model.Reading.{Reading}
use Rattle.tool_text.specs.entry_model.Entry.{Entry}
use Rattle.entry_laws.proofs.Offers.{one_offer}
use Rattle.read_model.specs.Accepts.{AreAccepted}
use Rattle.read_model.specs.Reads.{Read, AreHeld, AllRead, NotRead}
use Rattle.read_model.proofs.Outcomes.{all_or_not_read}
use Rattle.tool_text.specs.rendezvous_steps.declared.ends.Beat.{Beat}
use Rattle.tool_text.specs.rendezvous_steps.declared.ends.Beat.TheVariants.{Rounds}
use Rattle.tool_text.specs.rendezvous_steps.Plan.{Plan}
use Rattle.tool_text.specs.rendezvous_steps.Padded.{Padded}
use Rattle.tool_text.specs.rendezvous_rule.Runs.{RunOf}
use Rattle.round_laws.specs.Laws.{VerdictIsOne}
use Rattle.play_laws.specs.Patient.{NoneRefuses, InTimeIsDone, PatientIsDone, is_in_time}
use Rattle.tool_text.specs.machine_steps.Puts.{Puts}
use Rattle.script_text.specs.declared.command.Command.{Command}
use Rattle.script_text.specs.declared.command.Command.TheVariants as command
use Rattle.session_text.specs.declared.answers.CommandAnswer.{CommandAnswer}
use Rattle.session_text.specs.declared.answers.CommandAnswer.TheVariants.{Done, Hot, Load}
use Rattle.session_text.specs.declared.answers.LoadAnswer.TheVariants as load
use Rattle.session_text.specs.declared.answers.SessionAnswer.{SessionAnswer}
use Rattle.session_text.specs.declared.answers.SessionAnswer.TheVariants as session
use Rattle.tool_text.specs.session_steps.State.{Setting, State, machine_of, takes_part}
use Rattle.tool_text.specs.session_steps.Offers.{offer_of, facts_now, IsOfferWhere, AreLoadOffers, put_revision, plan_of}
use Rattle.tool_text.specs.session_steps.Did.{Did}
use Rattle.tool_text.specs.session_steps.Step.{SessionStep, ReadAll, LoadRow, Meets, run_of}
use Rattle.tool_text.specs.session_steps.Session.{StepsFrom, ends_session, left_to_run, is_done, all_done, all_reads, all_runs, with_run, ended_by, or_else, first_end, answer_by, session_answer}
use Rattle.session_laws.proofs.Plans.{offer_in}
use Rattle.tool_text.specs.Commands.{entries_of_all}
use Rattle.tool_text.specs.Able as able
use Rattle.tool_laws.proofs.Able.{IsEndedOrUnread, ended, left_unread, all_can_be_done}
use Rattle.live_cli.specs.Able.{CanLoad, CanDo, CanDoAll}
use Rattle.live_cli.proofs.Loads.{some_is, ran_of, in_time_row}

-- all was done, or a file was not read
data IsDoneOrUnread (answer : CommandAnswer) : Type 0 where
  was_done : answer ≡ Done → IsDoneOrUnread answer
  was_unread : (file : ℕ) → answer ≡ Load (load.ReadFault file) → IsDoneOrUnread answer

-- the same of a session
abbrev pub IsFine : SessionAnswer → Type 0
IsFine answer = (answer ≡ session.Ended) ⊎ (answer ≡ session.ReadFault)

abbrev is_fine : SessionAnswer → Bool
is_fine session.Ended = true
is_fine session.ReadFault = true
is_fine answer = false

fine_is : (answer : SessionAnswer) → IsFine answer → is_fine answer ≡ true
fine_is answer (inl is) = ap is_fine is
fine_is answer (inr is) = ap is_fine is

-- ---- a command by itself

-- what a session of one command answers tells what the command did
one_tells : (answer : CommandAnswer) → is_fine (answer_by (or_else (ended_by answer) None) (is_done answer && true)) ≡ true →
    IsDoneOrUnread answer
one_tells Done is = was_done refl
one_tells (Load (load.ReadFault file)) is = was_unread file refl
one_tells answer is = absurd (false≢true is)

none_left : (ends : Bool) → left_to_run ends [] ≡ []
none_left true = refl
none_left false = refl

module _ (patient : PatientIsDone) (one_verdict : VerdictIsOne) (setting : Setting) (holds : List ℕ → List ℕ) where
  ended_or_unread : (answer : SessionAnswer) → IsEndedOrUnread patient one_verdict setting holds answer → IsFine answer
  ended_or_unread answer (ended is) = inl is
  ended_or_unread answer (left_unread is) = inr is

  -- a command that lists its items, or has none, and can be done
  alone : (state : State) (one : Command) (did : Did) → AreHeld holds did.reads → able.CanDo setting state one holds →
      SessionStep true setting state one did → IsDoneOrUnread did.answer
  alone state one did held can step =
      one_tells did.answer
      (fine_is (session_answer (did ∷ []))
      (ended_or_unread (session_answer (did ∷ []))
      (all_can_be_done patient one_verdict setting holds (did ∷ []) state (one ∷ [])
      (subst (AreHeld holds) (sym (append-nil did.reads)) held)
      (can, λ other step held is. tt) (
        step,
        subst (λ (commands : List Command). StepsFrom true setting did.after commands [])
            (sym (none_left (ends_session did.answer))) tt,
      ))))

-- ---- offers

same_lists : (xs ys : List (Option ℕ)) → length xs ≡ length ys →
    ((k : ℕ) → k < length xs → get_or xs k None ≡ get_or ys k None) → xs ≡ ys
same_lists [] [] count each = refl
same_lists [] (y ∷ ys) count each = absurd (omega (arith, count))
same_lists (x ∷ xs) [] count each = absurd (omega (arith, count))
same_lists (x ∷ xs) (y ∷ ys) count each =
    ap (λ (first : Option ℕ). first ∷ xs) (each 0 (omega arith))
    ∙ ap (λ (rest : List (Option ℕ)). y ∷ rest)
    (same_lists xs ys (omega (arith, count)) (λ k below. each (suc k) (omega (arith, below))))

one_where : (part : Bool) (entries : List Entry) (core : CoreFacts) (force : Bool) (m n : Option ℕ) →
    IsOfferWhere part entries core force m → IsOfferWhere part entries core force n → m ≡ n
one_where true entries core force m n is too = one_offer entries core force m n is too
one_where false entries core force m n is too = is ∙ sym too

load_offers_are : (setting : Setting) (state : State) (force : Bool) (entries : List Entry)
    (offers others : List (Option ℕ)) → AreLoadOffers setting state force entries offers →
    AreLoadOffers setting state force entries others → offers ≡ others
load_offers_are setting state force entries offers others are too =
    same_lists offers others (are.count ∙ sym too.count)
    (λ g below.
    let inside = subst (λ (n : ℕ). g < n) are.count below in
    one_where (takes_part setting state g) entries (facts_now setting state g) force (get_or offers g None)
    (get_or others g None) (are.each g inside) (too.each g inside))

-- the entries that were read are those of the accepted files
entries_are : (names : List (List ℕ)) (holds : List ℕ → List ℕ) (readings : List Reading) (reads : List Read)
    (entries : List Entry) → AreAccepted (map holds names) readings → AreHeld holds reads →
    ReadAll names reads entries → entries ≡ entries_of_all readings
entries_are names holds readings reads entries accepted held read =
    elim (all_or_not_read names holds readings reads (AllRead read.readings) accepted held read.come) [
      | inl all ↦
          let same : read.readings ≡ readings = cc in
          read.all ∙ ap entries_of_all same
      | inr unread ↦ let wrong : AllRead read.readings ≡ NotRead unread.0 = unread.1 in absurd cc
    ]

-- ---- a load

-- a run that a command held is not late
abbrev pub IsInTime : RunOf → Type 0
IsInTime run = run.late ≡ false

module _ (patient : PatientIsDone) (one_verdict : VerdictIsOne) (in_time : InTimeIsDone) (setting : Setting) (state : State)
    (force : Bool) (names : List (List ℕ)) (holds : List ℕ → List ℕ) (beats : List Beat) (did : Did)
    (held : AreHeld holds did.reads) (can : CanLoad setting state force names holds)
    (timely : (run : RunOf) → did.ran ≡ Some run → IsInTime run) where
  offered_by : (puts : Puts) (offer : Option ℕ) (rev : ℕ) → put_revision puts offer ≡ Some rev →
      (number : ℕ) × (offer ≡ Some number)
  offered_by puts None rev is = absurd cc
  offered_by puts (Some number) rev is = (number, refl)

  refuse_in : (puts : Puts) (offers : List (Option ℕ)) (g : ℕ) → g < (machine_of setting).groups →
      (plan_of setting state puts offers).refuse g ≡ state.hardware.refuses g
  unfolding plan_of
  refuse_in puts offers g below =
      ap (λ (b : Bool). if b then state.hardware.refuses g else false) (lt-ltb g (machine_of setting).groups below)

  no_offer_past : (puts : Puts) (offers : List (Option ℕ)) → Padded (plan_of setting state puts offers) →
      (g : ℕ) → (machine_of setting).groups ≤ g → (plan_of setting state puts offers).offer g ≡ None
  unfolding plan_of
  no_offer_past puts offers padded g behind = padded.no_offer g behind

  none_refuse : (puts : Puts) (offers : List (Option ℕ)) → offers ≡ can.offers →
      ((g : ℕ) → (machine_of setting).groups ≤ g → (plan_of setting state puts offers).offer g ≡ None) →
      NoneRefuses (plan_of setting state puts offers)
  none_refuse puts offers same past g rev is = elim (cases_lt g (machine_of setting).groups) [
    | inl below ↦
        let some = offered_by puts (offer_of offers g) rev (sym (offer_in setting state puts offers g below) ∙ is) in
        refuse_in puts offers g below
        ∙ can.none_refuses g some.0 (sym (ap (λ (os : List (Option ℕ)). offer_of os g) same) ∙ some.1)
    | inr behind ↦ let wrong : None ≡ Some rev = sym (past g behind) ∙ is in absurd cc
  ]

  -- threads that met in time loaded all
  met_done : (answer : CommandAnswer) → Meets false setting state force names beats did answer →
      LoadRow false setting state force names beats did answer → answer ≡ Done
  met_done answer meets row =
      let plan : Plan = plan_of setting state meets.puts meets.offers in
      let run : RunOf = run_of plan meets.outcome meets.late in
      let entries : meets.entries ≡ entries_of_all can.readings =
      entries_are names holds can.readings did.reads meets.entries can.accepted held meets.read in
      let offers : meets.offers ≡ can.offers =
      load_offers_are setting state force (entries_of_all can.readings) meets.offers can.offers
      (subst (λ (es : List Entry). AreLoadOffers setting state force es meets.offers) entries meets.are_offers)
      can.are_offers in
      let none : NoneRefuses plan =
      none_refuse meets.puts meets.offers offers (no_offer_past meets.puts meets.offers meets.padded) in
      let ran : did.ran ≡ Some run = ran_of setting state force names beats did answer meets in
      in_time_row setting state force names beats did one_verdict in_time run ran (timely run ran) none answer row

  -- a schedule in which the same can be done, where threads do not meet
  abbrev some_rounds : List Beat
  some_rounds = Rounds (20 * (machine_of setting).threads + 8) ∷ []

  can_in_rounds : able.CanLoad setting state force names some_rounds holds
  can_in_rounds = record {
    present = can.present;
    readings = can.readings;
    accepted = can.accepted;
    offers = can.offers;
    are_offers = can.are_offers;
    something = can.something;
    puts = can.puts;
    fit = can.fit;
    none_refuses = can.none_refuses;
    in_time = All-cons (λ (beat : Beat). is_in_time beat ≡ true) (Rounds (20 * (machine_of setting).threads + 8)) [] refl
        (All-nil (λ (beat : Beat). is_in_time beat ≡ true));
    enough = omega arith;
  }

  not_met : (answer : CommandAnswer) → did.answer ≡ answer →
      LoadRow true setting state force names some_rounds did answer → IsDoneOrUnread answer
  not_met answer is row =
      subst IsDoneOrUnread is
      (alone patient one_verdict setting holds state (command.Load force names some_rounds) did held can_in_rounds
      (subst (LoadRow true setting state force names some_rounds did) (sym is) row))

  load_answers : (answer : CommandAnswer) → did.answer ≡ answer →
      LoadRow false setting state force names beats did answer → IsDoneOrUnread answer
  load_answers (Hot answer) is row = absurd row.1
  load_answers (Load (load.Busy t)) is row = not_met (Load (load.Busy t)) is row
  load_answers (Load (load.ReadFault file)) is row = not_met (Load (load.ReadFault file)) is row
  load_answers (Load (load.BadFile file fault)) is row = not_met (Load (load.BadFile file fault)) is row
  load_answers (Load load.NotFound) is row = not_met (Load load.NotFound) is row
  load_answers (Load (load.PoolFull needed)) is row = not_met (Load (load.PoolFull needed)) is row
  load_answers answer is row = was_done (met_done answer row.1 row)

-- ---- a session

-- the first run and the others
first_in_time : (ran : Option RunOf) (runs : List RunOf) → All IsInTime (with_run ran runs) → (run : RunOf) →
    ran ≡ Some run → IsInTime run
first_in_time None runs all run is = absurd cc
first_in_time (Some one) runs all run is = subst IsInTime (some_is one run is) (All-head IsInTime one runs all)

rest_in_time : (ran : Option RunOf) (runs : List RunOf) → All IsInTime (with_run ran runs) → All IsInTime runs
rest_in_time None runs all = all
rest_in_time (Some one) runs all = All-tail IsInTime one runs all

-- a first command that was done leaves the answer to the others
behind_done : (did : Did) (dids : List Did) → did.answer ≡ Done → session_answer (did ∷ dids) ≡ session_answer dids
behind_done did dids is =
    ap (λ (answer : CommandAnswer). answer_by (or_else (ended_by answer) (first_end dids)) (is_done answer && all_done dids)) is

unread_ends : (did : Did) (dids : List Did) (file : ℕ) → did.answer ≡ Load (load.ReadFault file) →
    session_answer (did ∷ dids) ≡ session.ReadFault
unread_ends did dids file is =
    ap (λ (answer : CommandAnswer). answer_by (or_else (ended_by answer) (first_end dids)) (is_done answer && all_done dids)) is

first_is : (did : Did) (dids : List Did) → IsDoneOrUnread did.answer →
    (did.answer ≡ Done → IsFine (session_answer dids)) → IsFine (session_answer (did ∷ dids))
first_is did dids (was_unread file is) rest = inr (unread_ends did dids file is)
first_is did dids (was_done is) rest = subst IsFine (sym (behind_done did dids is)) (rest is)

module _ (patient : PatientIsDone) (one_verdict : VerdictIsOne) (in_time : InTimeIsDone) (setting : Setting)
    (holds : List ℕ → List ℕ) where
  can_be_done : (state : State) (one : Command) (did : Did) → AreHeld holds did.reads →
      ((run : RunOf) → did.ran ≡ Some run → IsInTime run) → CanDo setting state one holds →
      SessionStep false setting state one did → IsDoneOrUnread did.answer
  can_be_done state (command.Load force names beats) did held timely can step =
      load_answers patient one_verdict in_time setting state force names holds beats did held can timely did.answer refl step
  can_be_done state (command.Boot names) did held timely can step =
      alone patient one_verdict setting holds state (command.Boot names) did held can step
  can_be_done state (command.Online t) did held timely can step =
      alone patient one_verdict setting holds state (command.Online t) did held can step
  can_be_done state (command.Offline t) did held timely can step =
      alone patient one_verdict setting holds state (command.Offline t) did held can step
  can_be_done state command.Suspend did held timely can step =
      alone patient one_verdict setting holds state command.Suspend did held can step
  can_be_done state command.Resume did held timely can step =
      alone patient one_verdict setting holds state command.Resume did held can step
  can_be_done state (command.Refuse core) did held timely can step =
      alone patient one_verdict setting holds state (command.Refuse core) did held can step
  can_be_done state (command.Accept core) did held timely can step =
      alone patient one_verdict setting holds state (command.Accept core) did held can step

  held_first : (reads more : List Read) → AreHeld holds (reads ++ more) → AreHeld holds reads
  held_first reads more held = λ k d below.
      let long = length-append reads more in
      subst (λ (read : Read). read.bytes ≡ holds read.name) (get_or_append_left reads more d k below) (held k d (omega arith))

  held_rest : (reads more : List Read) → AreHeld holds (reads ++ more) → AreHeld holds more
  held_rest reads more held = λ k d below.
      let long = length-append reads more in
      subst (λ (read : Read). read.bytes ≡ holds read.name) (get_or-append-add reads more k d)
      (held (length reads + k) d (omega arith))

  pub all_done_in_time : (dids : List Did) (state : State) (commands : List Command) → AreHeld holds (all_reads dids) →
      All IsInTime (all_runs dids) → CanDoAll setting state commands holds →
      StepsFrom false setting state commands dids → IsFine (session_answer dids)
  all_done_in_time [] state [] held timely can steps = inl refl
  all_done_in_time [] state (one ∷ commands) held timely can steps = absurd steps
  all_done_in_time (did ∷ dids) state [] held timely can steps = absurd steps
  all_done_in_time (did ∷ dids) state (one ∷ commands) held timely can steps =
      let first : AreHeld holds did.reads = held_first did.reads (all_reads dids) held in
      first_is did dids
      (can_be_done state one did first (first_in_time did.ran (all_runs dids) timely) can.0 steps.0)
      (λ is. all_done_in_time dids did.after commands (held_rest did.reads (all_reads dids) held)
      (rest_in_time did.ran (all_runs dids) timely)
      (can.1 did steps.0 first is)
      (subst (λ (ends : Bool). StepsFrom false setting did.after (left_to_run ends commands) dids)
      (ap ends_session is) steps.1))
