-- A load that has something to offer, as a step of a session.
use Rattle.std.proofs.Common.{◌≡◌, ℕ, Bool, false, List, ◌++◌, Option, Some, Result, Ok, Err, refl, sym, ap, ◌∙◌, subst, arith, append_assoc}
use Rattle.uc_io.specs.Faults.{Rose}
use Rattle.uc_io.specs.Writing.{Writes}
use Rattle.uc_io.proofs.Writes.{Grew-then, Writes-then}
use Rattle.session_steps.specs.entry_model.Entry.{Entry}
use Rattle.session_steps.specs.read_model.Reads.{Read}
use Rattle.session_steps.specs.rendezvous_steps.declared.ends.Beat.{Beat}
use Rattle.session_steps.specs.rendezvous_steps.Plan.{Plan, Sound}
use Rattle.session_steps.specs.rendezvous_steps.Padded.{Padded}
use Rattle.rendezvous_model.specs.Outcome.{Outcome}
use Rattle.rendezvous_model.specs.Verdict.{Verdict, LoadVerdict, load_verdict}
use Rattle.rendezvous_model.specs.Verdict as verdict
use Rattle.session_steps.specs.rendezvous_rule.Ran.{Ran}
use Rattle.session_steps.specs.rendezvous_rule.Runs.{RunOf, SomeRun}
use Rattle.round_laws.specs.Laws.{VerdictHolds}
use Rattle.session_steps.specs.rendezvous_steps.ItemText.{item_line}
use Rattle.session_steps.specs.machine_steps.Puts.{Puts}
use Rattle.session_steps.specs.script_text.declared.command.Command.{Command}
use Rattle.session_steps.specs.script_text.declared.command.Command.TheVariants as command
use Rattle.session_steps.specs.session_text.Lines.{answer_line}
use Rattle.session_steps.specs.session_text.declared.answers.CommandAnswer.{CommandAnswer}
use Rattle.session_steps.specs.session_text.declared.answers.Played.{Played}
use Rattle.session_steps.specs.session_text.declared.answers.Played.TheVariants.{Answered, WriteFault, NoMemory}
use Rattle.session_steps.specs.State.{Setting, State}
use Rattle.session_steps.specs.Offers.{AreLoadOffers, SomethingOffered, load_offers_text, plan_of}
use Rattle.session_steps.specs.Did.{Did, results_text, loaded}
use Rattle.session_steps.specs.Step as rows
use Rattle.session_steps.specs.Step.{SessionStep, LoadRow, AllPresent, ReadAll, answer_of, met, run_of}
use Rattle.session_steps.specs.Calls.{Outside, Situation}
use Rattle.session_steps.specs.Played.{is_read_fault, FileCause, ran_once}
use Rattle.session_parts.specs.Boots.{puts_of}
use Rattle.uc_rendezvous.specs.declared.outcomes.Outcome.{Outcome as Tables}
use Rattle.uc_rendezvous.specs.declared.runs.RunAnswer.{RunAnswer}
use Rattle.uc_rendezvous.specs.declared.runs.RunAnswer.TheVariants as run
use Rattle.uc_rendezvous.specs.Runs.{RunOutside, RunTraces, IsRun}
use Rattle.uc_session.specs.Meeting.{CameTo, CutShort, Meets, cut_short}
use Rattle.uc_session.specs.Playing.{told_of, Follows, Does}
use Rattle.uc_session.proofs.Behind as playing
use Rattle.uc_session.proofs.Behind.{come}

-- ---- what is offered, and the run

module _ {D : Type 0} (outside : RunOutside D) (plan : Plan) (beats : List Beat) (offered : List ℕ) where
  -- what is offered was not all written
  pub not_offered : {E : Type 0} (e : E) (before now : D) → SomeRun item_line outside.lists plan beats →
      Writes {E = E} outside.stands outside.faults before now offered (Err e) →
      CutShort outside plan beats offered before now × Rose (outside.faults before) (outside.faults now)
  not_offered e before now some wrote = (
    record {
      run = some;
      front = wrote.outcome.0.front;
      is_front = (
        wrote.outcome.0.rest ++ some.text,
        ap (λ text. text ++ some.text) wrote.outcome.0.split
            ∙ append_assoc wrote.outcome.0.front wrote.outcome.0.rest some.text,
      );
      later = wrote.later;
      grew = wrote.outcome.0.grew;
    },
    wrote.outcome.1,
  )

  -- it was written, and then the threads met
  pub they_met : {E : Type 0} (before now : RunTraces D) (mid : D) (result : Result Tables RunAnswer) →
      SomeRun item_line outside.lists plan beats →
      Writes {E = E} outside.stands outside.faults before.sink mid offered (Ok tt) →
      IsRun outside plan beats (record before { sink = mid }) now result →
      Meets outside plan beats offered before now result
  they_met {E = E} before now mid (Ok outcome) some wrote is = record {
    items = is.answer.text;
    late = is.answer.late;
    ran = is.answer.ran;
    wrote = Writes-then outside.stands outside.faults before.sink mid now.sink offered is.answer.text {E = Unit {0}} (Ok tt)
        (record { later = wrote.later; still = wrote.still; outcome = wrote.outcome })
        (record { later = is.later; still = is.still; outcome = is.answer.grew });
    kept = is.answer.kept;
  }
  they_met {E = E} before now mid (Err run.WriteFault) some wrote is =
      let front : List ℕ = is.answer.front.front in (
        record {
          run = is.answer.run;
          front = offered ++ front;
          is_front = (
            is.answer.front.rest,
            ap (λ text. offered ++ text) is.answer.front.split ∙ sym (append_assoc offered front is.answer.front.rest),
          );
          later = omega (arith, wrote.later, is.later);
          grew = Grew-then outside.stands before.sink mid now.sink offered front wrote.outcome is.answer.front.grew;
        },
        grind (arith, wrote.later, is.later, is.answer.rose),
      )
  they_met {E = E} before now mid (Err run.NoMemory) some wrote is =
      let grew : Writes {E = E} outside.stands outside.faults before.sink now.sink offered (Ok tt) =
      subst (λ (last : D). Writes {E = E} outside.stands outside.faults before.sink last offered (Ok tt)) (sym is.answer.same_sink) wrote in (
        record {
          run = some;
          front = offered;
          is_front = (some.text, refl);
          later = grew.later;
          grew = grew.outcome;
        },
        grew.still,
      )

-- ---- the load

-- a rendezvous has the outside of its session, and what a call finds and leaves is what its runs do
abbrev pub run_outside : {D : Type 0} → Outside D → RunOutside D
run_outside outside = record { stands = outside.stands; faults = outside.faults; lists = outside.lists }

abbrev pub traces_of : {D : Type 0} → Situation D → RunTraces D
traces_of now = record { runs = now.runs; sink = now.sink }

module _ {D : Type 0} (outside : Outside D) (setting : Setting) (before : Situation D) (force : Bool) (names : List (List ℕ))
    (beats : List Beat) (reads : List Read) (entries : List Entry) (offers : List (Option ℕ)) (puts : Puts) where
  abbrev lists : Bool
  lists = outside.lists

  abbrev old : State
  old = before.state

  abbrev plan : Plan
  plan = plan_of setting old puts offers

  -- what it does, by what the rendezvous comes to
  abbrev pub load_did : List ℕ → Outcome → Bool → CommandAnswer → Did
  load_did items outcome late answer =
      met setting old reads entries puts offers plan items (run_of plan outcome late) answer

  shown_is : (items : List ℕ) (outcome : Outcome) (late : Bool) (answer : CommandAnswer) →
      (load_did items outcome late answer).shown ≡ load_offers_text setting old entries offers ++ items
  unfolding met
  shown_is items outcome late answer = refl

  reads_are : (items : List ℕ) (outcome : Outcome) (late : Bool) (answer : CommandAnswer) →
      (load_did items outcome late answer).reads ≡ reads
  unfolding met
  reads_are items outcome late answer = refl

  answer_is : (items : List ℕ) (outcome : Outcome) (late : Bool) (answer : CommandAnswer) →
      (load_did items outcome late answer).answer ≡ answer
  unfolding met
  answer_is items outcome late answer = refl

  after_is : (items : List ℕ) (outcome : Outcome) (late : Bool) (answer : CommandAnswer) →
      (load_did items outcome late answer).after ≡ loaded setting old puts offers plan outcome
  unfolding met
  after_is items outcome late answer = refl

  told_is : (items : List ℕ) (outcome : Outcome) (late : Bool) (answer : CommandAnswer) →
      (load_did items outcome late answer).told ≡ results_text setting old plan outcome
  unfolding met
  told_is items outcome late answer = refl

  ran_is : (items : List ℕ) (outcome : Outcome) (late : Bool) (answer : CommandAnswer) →
      (load_did items outcome late answer).ran ≡ Some (run_of plan outcome late)
  unfolding met
  ran_is items outcome late answer = refl

  -- no verdict is a read fault
  never_unread : (found : Verdict) → is_read_fault (answer_of found) ≡ false
  never_unread verdict.Done = refl
  never_unread (verdict.Panicked t) = refl
  never_unread (verdict.Unfinished t) = refl
  never_unread (verdict.OfflineSilent kicks) = refl
  never_unread (verdict.TimedOut t) = refl
  never_unread (verdict.Failed t) = refl
  never_unread (verdict.Incomplete t) = refl

  module _ (present : AllPresent setting old) (read : ReadAll names reads entries)
      (are_offers : AreLoadOffers setting old force entries offers) (something : SomethingOffered offers)
      (put : puts_of setting old entries offers ≡ Ok puts) (sound : Sound plan) (padded : Padded plan) where
    abbrev one : Command
    one = command.Load force names beats

    -- the same for every verdict
    load_meets : (items : List ℕ) (outcome : Outcome) (late : Bool) (found : Verdict) →
        Ran item_line lists plan beats items outcome late → LoadVerdict plan outcome found →
        rows.Meets lists setting old force names beats (load_did items outcome late (answer_of found)) (answer_of found)
    unfolding met
    load_meets items outcome late found ran holds = record {
      entries = entries;
      read = read;
      offers = offers;
      are_offers = are_offers;
      something = something;
      puts = puts;
      put = put;
      sound = sound;
      padded = padded;
      items = items;
      outcome = outcome;
      late = late;
      ran = ran;
      verdict = found;
      is_verdict = holds;
      is_answer = refl;
      does = refl;
    }

    row_of : (did : Did) (found : Verdict) → rows.Meets lists setting old force names beats did (answer_of found) →
        LoadRow lists setting old force names beats did (answer_of found)
    row_of did verdict.Done meets = (present, meets)
    row_of did (verdict.Panicked t) meets = (present, meets)
    row_of did (verdict.Unfinished t) meets = (present, meets)
    row_of did (verdict.OfflineSilent kicks) meets = (present, meets)
    row_of did (verdict.TimedOut t) meets = (present, meets)
    row_of did (verdict.Failed t) meets = (present, meets)
    row_of did (verdict.Incomplete t) meets = (present, meets)

    load_step : (items : List ℕ) (outcome : Outcome) (late : Bool) (found : Verdict) →
        Ran item_line lists plan beats items outcome late → LoadVerdict plan outcome found →
        SessionStep lists setting old one (load_did items outcome late (answer_of found))
    load_step items outcome late found ran holds =
        subst (LoadRow lists setting old force names beats (load_did items outcome late (answer_of found)))
        (sym (answer_is items outcome late (answer_of found)))
        (row_of (load_did items outcome late (answer_of found)) found (load_meets items outcome late found ran holds))

    -- ---- the call

    module _ (is_held : outside.held reads) where
      abbrev offered : List ℕ
      offered = load_offers_text setting old entries offers

      cause_of : (now : Situation D) → now.files ≡ before.files →
          (items : List ℕ) (outcome : Outcome) (late : Bool) (found : Verdict) →
          FileCause (is_read_fault (load_did items outcome late (answer_of found)).answer) before.files now.files
      cause_of now still items outcome late found =
          subst (λ (unread : Bool). FileCause unread before.files now.files)
          (sym (ap is_read_fault (answer_is items outcome late (answer_of found)) ∙ never_unread found)) still

      held_of : (items : List ℕ) (outcome : Outcome) (late : Bool) (answer : CommandAnswer) →
          outside.held (load_did items outcome late answer).reads
      held_of items outcome late answer = subst outside.held (sym (reads_are items outcome late answer)) is_held

      module _ (verdicts : VerdictHolds) (now : Situation D) (still : now.files ≡ before.files) (same : now.state ≡ old)
          (cut : CutShort (run_outside outside) plan beats offered before.sink now.sink) where
        abbrev found : Verdict
        found = load_verdict plan cut.run.outcome

        abbrev did : Did
        did = load_did cut.run.text cut.run.outcome cut.run.late (answer_of found)

        stops : (come : Played) → ((answer : CommandAnswer) → come ≡ Answered answer → ⊥) →
            Follows outside one did before now come → Does outside setting one before now come
        stops come never follows = record {
          did = did;
          step = load_step cut.run.text cut.run.outcome cut.run.late found cut.run.ran (verdicts plan cut.run.outcome);
          is_held = held_of cut.run.text cut.run.outcome cut.run.late (answer_of found);
          cause = cause_of now still cut.run.text cut.run.outcome cut.run.late found;
          rest = follows;
          kept = λ answer is. absurd (never answer is);
        }

        split : did.shown ≡ cut.front ++ cut.is_front.0
        split = shown_is cut.run.text cut.run.outcome cut.run.late (answer_of found) ∙ cut.is_front.1

        -- not all was written of what a load shows, and the state is as it was
        pub is_cut : Rose (outside.faults before.sink) (outside.faults now.sink) → Does outside setting one before now WriteFault
        is_cut rose =
            stops WriteFault (λ answer is. cc)
            (playing.cut outside one did before now same cut.front cut.is_front.0 cut.later split cut.grew rose)

        -- memory ran out
        pub is_out : outside.faults now.sink ≡ outside.faults before.sink → Does outside setting one before now NoMemory
        is_out no_fault =
            stops NoMemory (λ answer is. cc)
            (playing.out outside one did before now same cut.front cut.is_front.0 cut.later split cut.grew no_fault)

      -- no outcome came of it
      pub is_stopped : VerdictHolds → (now : Situation D) → now.files ≡ before.files → now.state ≡ old → (answer : RunAnswer) →
          Meets (run_outside outside) plan beats offered (traces_of before) (traces_of now) (Err answer) →
          Does outside setting one before now (cut_short answer)
      is_stopped verdicts now still same run.WriteFault is = is_cut verdicts now still same is.0 is.1
      is_stopped verdicts now still same run.NoMemory is = is_out verdicts now still same is.0 is.1

      -- the threads met, the state has changed, and the rest was written, or not all of it
      pub is_met : {E : Type 0} (mid : D) (now : Situation D) → now.files ≡ before.files →
          (outcome : Outcome) (found : Verdict) (r : Result (Unit {0}) E) →
          (came : CameTo (run_outside outside) plan beats offered (traces_of before) (record { runs = now.runs; sink = mid }) outcome) →
          LoadVerdict plan outcome found → now.state ≡ loaded setting old puts offers plan outcome →
          Writes outside.stands outside.faults mid now.sink (results_text setting old plan outcome ++ answer_line names (answer_of found)) r →
          Does outside setting one before now (come (answer_of found) r)
      is_met {E = E} mid now still outcome found r came holds_of is_after wrote =
          let made : Did = load_did came.items outcome came.late (answer_of found) in
          let same : told_of one made ≡ results_text setting old plan outcome ++ answer_line names (answer_of found) =
          ap (λ told. told ++ answer_line names made.answer) (told_is came.items outcome came.late (answer_of found))
          ∙ ap (λ (a : CommandAnswer). results_text setting old plan outcome ++ answer_line names a)
          (answer_is came.items outcome came.late (answer_of found)) in
          let rest : Follows outside one made before now (come made.answer r) =
          playing.told outside one made before mid now r
          (is_after ∙ sym (after_is came.items outcome came.late (answer_of found)))
          (subst (λ text. Writes {E = E} outside.stands outside.faults before.sink mid text (Ok tt)) (sym (shown_is came.items outcome came.late (answer_of found)))
          (record { later = came.wrote.later; still = came.wrote.still; outcome = came.wrote.outcome }))
          (subst (λ text. Writes outside.stands outside.faults mid now.sink text r) (sym same) wrote) in
          record {
            did = made;
            step = load_step came.items outcome came.late found came.ran holds_of;
            is_held = held_of came.items outcome came.late (answer_of found);
            cause = cause_of now still came.items outcome came.late found;
            rest =
                subst (λ (a : CommandAnswer). Follows outside one made before now (come a r))
                (answer_is came.items outcome came.late (answer_of found)) rest;
            kept = λ answer is unlisted.
                came.kept unlisted
                ∙ ap (λ (ran : Option RunOf). before.runs ++ ran_once ran) (sym (ran_is came.items outcome came.late (answer_of found)));
          }
