-- A run in which no thread runs out of patience ends with Done, where no group refuses.
use Rattle.std.proofs.Common.{◌≡◌, ◌≢◌, ◌⊎◌, ℕ, zero, suc, ◌+◌, ◌*◌, ◌-◌, ◌<◌, ◌≤◌, Bool, true, false, not, ◌&&◌, if◌then◌else◌, List, [], ◌∷◌, map, get_or, Option, Some, None, refl, ap, sym, ◌∙◌, subst, arith, true≢false, inl, inr}
use Rattle.std.specs.List.{range_with_len, All}
use Rattle.std.proofs.lemmas.Bool.{cases_Bool}
use Rattle.std.proofs.lemmas.List.Folds.{list_any_at}
use Rattle.std.proofs.lemmas.List.FromFn.{get_or-range_with_len, length-range_with_len, get_or-map-range_with_len}
use Rattle.rendezvous_steps.specs.declared.steps.Kind.{Kind}
use Rattle.rendezvous_steps.specs.declared.steps.Kind.TheVariants.{Online, Offline, Absent as KindAbsent}
use Rattle.rendezvous_steps.specs.declared.steps.ThreadResult.TheVariants as results
use Rattle.rendezvous_steps.specs.declared.steps.Phase.{Phase}
use Rattle.rendezvous_steps.specs.declared.steps.Phase.TheVariants as phase
use Rattle.rendezvous_steps.specs.declared.items.What.{What}
use Rattle.rendezvous_steps.specs.declared.items.What.TheVariants as what
use Rattle.rendezvous_steps.specs.declared.items.Event.{Event}
use Rattle.rendezvous_steps.specs.declared.items.Event.TheVariants as event
use Rattle.rendezvous_steps.specs.declared.ends.Beat.{Beat}
use Rattle.rendezvous_steps.specs.declared.ends.Beat.TheVariants as beat
use Rattle.rendezvous_steps.specs.declared.ends.End.{End}
use Rattle.rendezvous_steps.specs.declared.ends.End.TheVariants as ends
use Rattle.rendezvous_steps.specs.Plan.{Plan, Sound, is_primary}
use Rattle.rendezvous_steps.specs.Padded.{Padded}
use Rattle.rendezvous_steps.specs.Words.{families}
use Rattle.rendezvous_steps.specs.StepTable.{is_last}
use Rattle.rendezvous_steps.specs.Events.{Running, put, happens, opening_running, shows_finished}
use Rattle.rendezvous_model.specs.Round.{State, Cause, Step, Timeout, Run, Place, Out, In, Left, Halted, Withdrawn, Absent, Stage, Gathering, Going, DroppedByKick, DroppedBy, nobody, is_dropped, is_halted, is_held, is_unfinished, opening_place, opening_state}
use Rattle.rendezvous_model.specs.RoundStep.{RoundBy, cause_of, thread_of}
use Rattle.rendezvous_model.specs.Outcome.{Outcome, OutcomeShows, end_of, decide_of}
use Rattle.rendezvous_model.specs.Verdict.{end_at, refused_at, left_with_error}
use Rattle.rendezvous_model.specs.Verdict as verdict
use Rattle.rendezvous_rule.specs.Shown.{shown_by}
use Rattle.rendezvous_rule.specs.View.{views}
use Rattle.rendezvous_rule.specs.Seen.{seen, place_seen}
use Rattle.rendezvous_rule.specs.Rule.{RuleBy}
use Rattle.rendezvous_rule.specs.Ran.{Unlisted, events_of, repeated, primary_result}
use Rattle.play_steps.specs.Play.{is_over, last_moment}
use Rattle.play_steps.proofs.Play.{last_moment_over, last_moment_next, last_moment_append}
use Rattle.rule_laws.specs.Kept.{Ruled}
use Rattle.rule_laws.proofs.Assemble.{shown_is_seen}
use Rattle.rule_laws.proofs.Facts.{none_settled}
use Rattle.run_laws.proofs.Tables.{put_same, put_other, same_or_not}
use Rattle.run_laws.proofs.Model.{change, changed}
use Rattle.play_laws.specs.Lawful.{Lawful, EventLaw}
use Rattle.play_laws.specs.Stuck.{rounds_in, EnoughRoundsFinish}
use Rattle.play_laws.specs.Patient.{NoneRefuses, InTimeIsDone, PatientIsDone, is_in_time}
use Rattle.rule_laws.proofs.Opening.{opening_is_shown}
use Rattle.play_laws.proofs.EachEvent.{event_law}
use Rattle.play_laws.proofs.EachRun.{opening_lawful}
use Rattle.play_laws.proofs.Rounds.{enough_rounds}
use Rattle.play_laws.proofs.Told.{place_is}
use Rattle.play_laws.proofs.Over.{unfinished_is}
use Rattle.play_laws.proofs.Ready.{place_at}
use Rattle.play_laws.proofs.Unlisted.{ends_are_unlisted}

no : {A : Type 0} (b : Bool) → b ≡ false → b ≡ true → A
no b off on = absurd (true≢false (sym on ∙ off))

-- By the model: nobody gave up on others.

pub record InTime (s : State) : Type 0 where
  pub undropped : is_dropped s.stage ≡ false
  pub none_halted : (u : ℕ) → is_halted (s.place u) ≡ false

not_halted :
    (place : ℕ → Place) (t u : ℕ) (new : Place) → is_halted new ≡ false → is_halted (place u) ≡ false →
    is_halted (put place t new u) ≡ false
not_halted place t u new now before =
    elim (same_or_not u t) [
      | inl e ↦ ap is_halted (ap (put place t new) e ∙ put_same place t new) ∙ now
      | inr other ↦ ap is_halted (put_other place t u new other) ∙ before
    ]

in_time_by :
    (plan : Plan) (t : ℕ) (cause : Cause) (s : State) (item : What) (s' : State) →
    RoundBy plan t cause s item s' → cause ≢ Timeout → InTime s → InTime (change plan t item s)
in_time_by plan t cause s what.Enter s' by patient before =
    record { undropped = before.undropped; none_halted = λ u. not_halted s.place t u In refl (before.none_halted u) }
in_time_by plan t cause s (what.Leave x) s' by patient before =
    record {
      undropped = before.undropped;
      none_halted = λ u. not_halted s.place t u (Left x) refl
          (before.none_halted u);
    }
in_time_by plan t cause s (what.Withdraw k) s' by patient before =
    record {
      undropped = before.undropped;
      none_halted = λ u. not_halted s.place k u Withdrawn refl
          (before.none_halted u);
    }
in_time_by plan t cause s what.Go s' by patient before = record { undropped = refl; none_halted = before.none_halted }
in_time_by plan t cause s what.Drop s' by patient before = absurd (patient by.out_of_patience)
in_time_by plan t cause s what.DropKick s' by patient before = absurd (patient by.out_of_patience)
in_time_by plan t cause s what.Halt s' by patient before = absurd (patient by.out_of_patience)
in_time_by plan t cause s item s' by patient before =
    record { undropped = before.undropped; none_halted = before.none_halted }

in_time_opening : (plan : Plan) → InTime (opening_state plan)
in_time_opening plan = record { undropped = refl; none_halted = λ u. outside (plan.kind u) }
  where
    outside : (kind : Kind) → is_halted (opening_place kind) ≡ false
    outside Online = refl
    outside Offline = refl
    outside KindAbsent = refl

module _ (law : EventLaw) (plan : Plan) (sound : Sound plan) (padded : Padded plan) where
  -- an event that is no timeout
  in_time_led : (happened : Event) (m : Running) →
      Lawful plan m → cause_of (shown_by plan m) happened ≢ Timeout → InTime (shown_by plan m) →
      InTime (shown_by plan (happens plan happened m).0)
  in_time_led happened m lawful patient before =
      let s = shown_by plan m in
      let after = happens plan happened m in
      let led = law plan happened m sound padded lawful in
      subst InTime (sym (changed plan (thread_of happened) (cause_of s happened) s after.1 (shown_by plan after.0)
      led.round))
      (in_time_by plan (thread_of happened) (cause_of s happened) s after.1 (shown_by plan after.0) led.round
      patient before)

  abbrev Patient : Running → Type 0
  Patient m = Lawful plan m × InTime (shown_by plan m)

  patient_led : (happened : Event) (m : Running) →
      cause_of (shown_by plan m) happened ≢ Timeout → Patient m → Patient (happens plan happened m).0
  patient_led happened m patient before =
      ((law plan happened m sound padded before.0).lawful, in_time_led happened m before.0 patient before.1)

  one_by : (m : Running) (happened : Event) (events : List Event) (over : Bool) → is_over plan m ≡ over →
      Patient m →
      (Patient (happens plan happened m).0 → Patient (last_moment plan (happens plan happened m).0 events)) →
      cause_of (shown_by plan m) happened ≢ Timeout → Patient (last_moment plan m (happened ∷ events))
  one_by m happened events true over before rest patient =
      subst Patient (sym (last_moment_over plan m (happened ∷ events) over)) before
  one_by m happened events false over before rest patient =
      subst Patient (sym (last_moment_next plan m happened events over)) (rest (patient_led happened m patient before))

  abbrev steps_from : ℕ → ℕ → List Event
  steps_from a n = map (λ t. event.Step t) (range_with_len a n)

  steps_patient : (a n : ℕ) (m : Running) → Patient m → Patient (last_moment plan m (steps_from a n))
  steps_patient a zero m before = before
  steps_patient a (suc n) m before =
      one_by m (event.Step a) (steps_from (a + 1) n) (is_over plan m) refl before
      (λ after. steps_patient (a + 1) n (happens plan (event.Step a) m).0 after) (λ e. cc)

  rounds_patient : (n : ℕ) (rest : List Event) → ((m : Running) → Patient m → Patient (last_moment plan m rest)) →
      (m : Running) → Patient m → Patient (last_moment plan m (repeated n (steps_from 0 (plan.threads - 0)) rest))
  rounds_patient zero rest later m before = later m before
  rounds_patient (suc n) rest later m before =
      subst Patient (sym (last_moment_append plan m (steps_from 0 (plan.threads - 0))
      (repeated n (steps_from 0 (plan.threads - 0)) rest)))
      (rounds_patient n rest later (last_moment plan m (steps_from 0 (plan.threads - 0)))
      (steps_patient 0 (plan.threads - 0) m before))

  run_cause : (held : Bool) → (if held then Step else Run) ≢ Timeout
  run_cause true e = cc
  run_cause false e = cc

  rest_all :
      (b : Beat) (beats : List Beat) → All (λ b. is_in_time b ≡ true) (b ∷ beats) →
      All (λ b. is_in_time b ≡ true) beats
  rest_all b beats all k d within = all (suc k) d (omega arith)

  beats_patient : (beats : List Beat) → All (λ b. is_in_time b ≡ true) beats →
      (m : Running) → Patient m → Patient (last_moment plan m (events_of plan beats))
  beats_patient [] patient m before = before
  beats_patient (beat.Step t ∷ beats) patient m before =
      one_by m (event.Step t) (events_of plan beats) (is_over plan m) refl before
      (beats_patient beats (rest_all (beat.Step t) beats patient) (happens plan (event.Step t) m).0)
      (λ e. cc)
  beats_patient (beat.Nmi t ∷ beats) patient m before =
      one_by m (event.Nmi t) (events_of plan beats) (is_over plan m) refl before
      (beats_patient beats (rest_all (beat.Nmi t) beats patient) (happens plan (event.Nmi t) m).0) (λ e. cc)
  beats_patient (beat.Run t ∷ beats) patient m before =
      one_by m (event.Run t) (events_of plan beats) (is_over plan m) refl before
      (beats_patient beats (rest_all (beat.Run t) beats patient) (happens plan (event.Run t) m).0)
      (run_cause (is_held ((shown_by plan m).place t)))
  beats_patient (beat.Timeout t ∷ beats) patient m before =
      absurd (true≢false (sym (patient 0 (beat.Timeout t) (omega arith))))
  beats_patient (beat.Rounds n ∷ beats) patient m before =
      rounds_patient n (events_of plan beats) (beats_patient beats (rest_all (beat.Rounds n) beats patient)) m before

-- At the end each thread has come to its last phase.

-- each thread is finished where it is over
over_each :
    (plan : Plan) (m : Running) (u : ℕ) → is_over plan m ≡ true → u < plan.threads →
    shows_finished plan m.words u ≡ true
over_each plan m u over within =
    elim (cases_Bool (shows_finished plan m.words u)) [
      | inl on ↦ on
      | inr off ↦
          let at : get_or (range_with_len 0 (plan.threads - 0)) u 0 ≡ u =
          get_or-range_with_len 0 (plan.threads - 0) u 0 (omega arith) ∙ omega arith in
          let ends = length-range_with_len 0 (plan.threads - 0) in
          let some = list_any_at (λ t. not (shows_finished plan m.words t)) (range_with_len 0 (plan.threads - 0)) u
          0 (omega arith)
          (ap (λ t. not (shows_finished plan m.words t)) at ∙ ap not off) in
          no _ (ap not some) over
    ]

module _ (plan : Plan) (m : Running) (first : Bool) (stage : Stage) (sound : Sound plan) (padded : Padded plan)
    (rule : RuleBy plan (families m.words) m.locals first stage) (undropped : is_dropped stage ≡ false) where
  abbrev s : State
  s = seen plan (views plan first m.locals) stage nobody

  last_by : (u : ℕ) (p : Phase) → (m.locals u).phase ≡ p → is_unfinished (s.place u) ≡ false → is_last p ≡ true
  last_by u phase.Left e over = refl
  last_by u phase.Halted e over = refl
  last_by u phase.Withdrawn e over = refl
  last_by u phase.Nothing e over = refl
  last_by u phase.Outside e over =
      let settled = none_settled plan (families m.words) m.locals first stage u sound rule undropped in
      no _ over (ap is_unfinished (place_at plan m first stage sound padded rule u phase.Outside e)
      ∙ ap (λ b. is_unfinished (place_seen Out b)) settled)
  last_by u p e over = no _ over (ap is_unfinished (place_at plan m first stage sound padded rule u p e))

  halted_place : (u : ℕ) → (m.locals u).phase ≡ phase.Halted → s.place u ≡ Halted
  halted_place u e = place_at plan m first stage sound padded rule u phase.Halted e

below_two : (stage : Stage) → is_dropped stage ≡ false → decide_of stage < 2
below_two Gathering e = omega arith
below_two Going e = omega arith
below_two DroppedByKick e = cc
below_two (DroppedBy t) e = cc

in_time_unlisted :
    (plan : Plan) (m : Running) (outcome : Outcome) →
    Sound plan → Padded plan → Ruled plan m → InTime (shown_by plan m) → is_over plan m ≡ true →
    OutcomeShows plan outcome (shown_by plan m) → Unlisted plan [] outcome false
in_time_unlisted plan m outcome sound padded ruled patient over shows =
    let shown = shown_is_seen plan (families m.words) m.locals ruled.first ruled.stage m.latched sound padded
    ruled.by in
    let undropped : is_dropped ruled.stage ≡ false = sym (ap (λ (x : State). is_dropped x.stage) shown)
    ∙ patient.undropped in
    let place = λ (u : ℕ). place_is plan m ruled.first ruled.stage sound padded ruled.by u in
    ends_are_unlisted plan m outcome false sound padded ruled
    (λ u within.
    last_by plan m ruled.first ruled.stage sound padded ruled.by undropped u (m.locals u).phase refl
    (ap is_unfinished (sym (place u)) ∙ (unfinished_is plan m u ∙ ap not (over_each plan m u over within))))
    (λ e. subst (λ n. n < 2) (sym (shows.decide ∙ ap (λ (x : State). decide_of x.stage) shown))
    (below_two ruled.stage undropped))
    (λ e u halted.
    no _ (patient.none_halted u)
    (ap is_halted (place u) ∙ ap is_halted (halted_place plan m ruled.first ruled.stage sound padded ruled.by
    undropped u halted)))
    shows

-- The verdict.

halted_not : (end : End) → end ≢ ends.Halted → verdict.ended_halted end ≡ false
halted_not ends.Halted e = absurd (e refl)
halted_not end e = refl

unfinished_not : (end : End) → end ≢ ends.Unfinished → verdict.ended_unfinished end ≡ false
unfinished_not ends.Unfinished e = absurd (e refl)
unfinished_not end e = refl

-- what a primary leaves with is no error, where its group does not refuse
no_error :
    (offer : Option ℕ) (refuses : Bool) → ((o : ℕ) → offer ≡ Some o → refuses ≡ false) →
    left_with_error (ends.Left (primary_result offer refuses)) ≡ false
no_error None refuses none = refl
no_error (Some o) false none = refl
no_error (Some o) true none = absurd (true≢false (none o refl))

offline_no_error : (end : End) → (end ≡ ends.Halted) ⊎ (end ≡ ends.Left results.Offline) → left_with_error end ≡ false
offline_no_error end (inl e) = ap left_with_error e
offline_no_error end (inr e) = ap left_with_error e

and_right : (a b : Bool) → b ≡ false → (a && b) ≡ false
and_right true b e = e
and_right false b e = refl

and_left : (a b : Bool) → a ≡ false → (a && b) ≡ false
and_left false b e = refl
and_left true b e = cc

refused_by :
    (plan : Plan) (text : List ℕ) (outcome : Outcome) (t : ℕ) (kind : Kind) (primary : Bool) →
    Unlisted plan text outcome false → NoneRefuses plan → outcome.decide ≡ 1 → t < plan.threads →
    plan.kind t ≡ kind → is_primary plan t ≡ primary → refused_at plan outcome t ≡ false
refused_by plan text outcome t kind false ran none went within k leads =
    and_left (is_primary plan t) (left_with_error (end_at outcome t)) leads
refused_by plan text outcome t Online true ran none went within k leads =
    and_right (is_primary plan t) (left_with_error (end_at outcome t))
    (ap left_with_error ((ran.after_go went).primaries t within k leads)
    ∙ no_error (plan.offer (plan.group t)) (plan.refuse (plan.group t)) (none (plan.group t)))
refused_by plan text outcome t Offline true ran none went within k leads =
    and_right (is_primary plan t) (left_with_error (end_at outcome t))
    (offline_no_error (end_at outcome t) ((ran.after_go went).offlines t within k))
refused_by plan text outcome t KindAbsent true ran none went within k leads =
    and_right (is_primary plan t) (left_with_error (end_at outcome t))
    (ap left_with_error ((ran.absents t within).1 k))

pub in_time_is_done : InTimeIsDone
in_time_is_done plan text outcome sound ran none =
    let went = ran.in_time refl in (
      (
        λ u within. halted_not (end_at outcome u) (ran.in_time_none_halted refl u within),
        λ u within. unfinished_not (end_at outcome u) (ran.none_unfinished u within),
      ),
      omega arith,
      λ u within. refused_by plan text outcome u (plan.kind u) (is_primary plan u) ran none went within refl refl,
    )

-- what such a schedule comes to
pub patient_unlisted :
    (plan : Plan) (beats : List Beat) (outcome : Outcome) →
    Sound plan →
    Padded plan →
    All (λ b. is_in_time b ≡ true) beats →
    20 * plan.threads + 8 ≤ rounds_in beats →
    OutcomeShows plan outcome (shown_by plan (last_moment plan (opening_running plan) (events_of plan beats))) →
    Unlisted plan [] outcome false
patient_unlisted plan beats outcome sound padded patient enough shows =
    let m = last_moment plan (opening_running plan) (events_of plan beats) in
    let lawful = opening_lawful plan sound padded in
    let last = beats_patient event_law plan sound padded beats patient (opening_running plan)
    (lawful, subst InTime (sym (opening_is_shown plan sound padded)) (in_time_opening plan)) in
    in_time_unlisted plan m outcome sound padded last.0.ruled last.1 (enough_rounds plan beats sound padded enough)
    shows

pub patient_is_done : PatientIsDone
patient_is_done plan beats outcome sound padded none patient enough shows =
    in_time_is_done plan [] outcome sound (patient_unlisted plan beats outcome sound padded patient enough shows) none

-- whatever the schedule, rounds enough leave no end unfinished
finished_end : (place : Place) → is_unfinished place ≡ false → end_of place ≢ ends.Unfinished
finished_end Out e f = cc
finished_end In e f = cc
finished_end (Left x) e f = cc
finished_end Halted e f = cc
finished_end Withdrawn e f = cc
finished_end Absent e f = cc

pub enough_rounds_finish : EnoughRoundsFinish
enough_rounds_finish plan beats outcome sound padded enough shows t within f =
    let m = last_moment plan (opening_running plan) (events_of plan beats) in
    let over = enough_rounds plan beats sound padded enough in
    let end : end_at outcome t ≡ end_of ((shown_by plan m).place t) =
    ap (λ (xs : List End). get_or xs t ends.Absent) shows.ends
    ∙ get_or-map-range_with_len (λ u. end_of ((shown_by plan m).place u)) 0 (plan.threads - 0) t t ends.Absent
    (omega arith) (omega arith) in
    finished_end ((shown_by plan m).place t)
    (unfinished_is plan m t ∙ ap not (over_each plan m t over within)) (sym end ∙ f)
