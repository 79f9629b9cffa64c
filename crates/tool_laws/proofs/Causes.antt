-- A session is short, or ends with a thread that halted, exactly where what its commands did says so.
use Rattle.std.proofs.Common.{◌≡◌, ◌≢◌, ◌⊎◌, ◌↔◌, ℕ, zero, suc, Bool, true, false, ◌&&◌, List, [], ◌∷◌, Option, Some, None, Result, Ok, Err, slice_get, refl, sym, ap, ◌∙◌, subst, inl, inr, true≢false}
use Rattle.status_rule.specs.declared.status.Status.{Status}
use Rattle.status_rule.specs.declared.status.Status.TheVariants as statuses
use Rattle.status_rule.specs.declared.status.Status.TheVariants.{BadInput, ReadFault}
use Rattle.uc_topology.specs.Stated.{Machine}
use Rattle.read_model.specs.Reads.{Read, Outcome, AllRead, NotRead, Refused}
use Rattle.tool_text.specs.rendezvous_steps.declared.ends.Beat.{Beat}
use Rattle.tool_text.specs.rendezvous_steps.Plan.{Plan}
use Rattle.tool_text.specs.rendezvous_model.Verdict.{Verdict, LoadVerdict}
use Rattle.tool_text.specs.rendezvous_model.Verdict as verdict
use Rattle.tool_text.specs.rendezvous_rule.Runs.{RunOf}
use Rattle.round_laws.specs.Laws.{VerdictIsOne}
use Rattle.tool_text.specs.machine_steps.declared.answers.HotAnswer.{HotAnswer}
use Rattle.tool_text.specs.machine_steps.Hardware.{Hardware}
use Rattle.tool_text.specs.machine_steps.Calls as calls
use Rattle.tool_text.specs.machine_steps.BringUps.{AllBrought, resume}
use Rattle.script_text.specs.declared.command.Command.{Command}
use Rattle.script_text.specs.declared.command.Command.TheVariants as command
use Rattle.tool_text.specs.session_text.declared.answers.CommandAnswer.{CommandAnswer}
use Rattle.tool_text.specs.session_text.declared.answers.CommandAnswer.TheVariants.{Done, Load}
use Rattle.tool_text.specs.session_text.declared.answers.LoadAnswer.TheVariants as load
use Rattle.tool_text.specs.session_text.declared.answers.SessionAnswer.{SessionAnswer}
use Rattle.tool_text.specs.session_text.declared.answers.SessionAnswer.TheVariants as session
use Rattle.tool_text.specs.session_steps.State.{Setting, State, machine_of, cached_patches, opening_state}
use Rattle.tool_text.specs.session_steps.Offers.{plan_of}
use Rattle.tool_text.specs.session_steps.Did.{Did, by_row, by_bring_ups}
use Rattle.tool_text.specs.session_steps.Step.{SessionStep, BootRow, LoadRow, Meets, answer_of, met, run_of, online, set_refusal}
use Rattle.tool_text.specs.session_steps.Session.{StepsFrom, Steps, ends_session, left_to_run, is_done, all_done, ended_by, or_else, first_end, short_unless, answer_by, session_answer}
use Rattle.tool_text.specs.Words.{Asked, Faulty, ListOf, ShowOf, SelectOf, PlayOf, GenOf}
use Rattle.tool_text.specs.Commands.{StopsAt, Listed, Shown, Selected, FailsAt, SelectsFor}
use Rattle.tool_text.specs.Plays.{setting_of, status_of, StatesMachine, ScriptFailsAt, PlaysScript, PlaysFor}
use Rattle.tool_text.specs.Tool.{AskedText}
use Rattle.tool_text.specs.Ends.{OneDid, HasOwnStatus, IsShort, HaltsIn, IsSessionOf, CausedText}
use Rattle.tool_laws.specs.Laws.{TextsHaveCauses}
use Rattle.tool_laws.proofs.Sessions.{quiet_or_met, IsQuiet, boot_quiet, row_quiet, rise_quiet, as_other, none_some}

-- ---- the answer of a command in which a thread halted

abbrev halted : ℕ → CommandAnswer
halted t = Load (load.Panicked t)

panicked_verdict : (v : Verdict) (t : ℕ) → Load (load.Panicked t) ≡ answer_of v → v ≡ verdict.Panicked t
panicked_verdict (verdict.Panicked u) t is = let same : t ≡ u = cc in ap verdict.Panicked (sym same)
panicked_verdict verdict.Done t is = absurd cc
panicked_verdict (verdict.Unfinished u) t is = absurd cc
panicked_verdict (verdict.OfflineSilent kicks) t is = absurd cc
panicked_verdict (verdict.TimedOut u) t is = absurd cc
panicked_verdict (verdict.Failed u) t is = absurd cc
panicked_verdict (verdict.Incomplete u) t is = absurd cc

row_answers : {A : Type 0} (state : State) (row : Result Hardware HotAnswer) (t : ℕ) →
    (by_row state row).answer ≡ Load (load.Panicked t) → A
row_answers state (Ok hardware) t is = absurd cc
row_answers state (Err answer) t is = absurd cc

rise_answers : {A : Type 0} (state : State) (row : Result AllBrought HotAnswer) (t : ℕ) →
    (by_bring_ups state row).answer ≡ Load (load.Panicked t) → A
rise_answers state (Ok brought) t is = absurd cc
rise_answers state (Err answer) t is = absurd cc

module _ (one_verdict : VerdictIsOne) (setting : Setting) where
  meets_ran : (state : State) (force : Bool) (names : List (List ℕ)) (beats : List Beat) (did : Did) (answer : CommandAnswer)
      (meets : Meets true setting state force names beats did answer) →
      did.ran ≡ Some (run_of (plan_of setting state meets.puts meets.offers) meets.outcome meets.late)
  unfolding met
  meets_ran state force names beats did answer meets = ap (λ (d : Did). d.ran) meets.does

  panicked_met : (state : State) (force : Bool) (names : List (List ℕ)) (beats : List Beat) (did : Did) (t : ℕ) →
      Meets true setting state force names beats did (Load (load.Panicked t)) → HaltsIn t did
  panicked_met state force names beats did t meets =
      let plan : Plan = plan_of setting state meets.puts meets.offers in
      record {
        ran = run_of plan meets.outcome meets.late;
        is_ran = meets_ran state force names beats did (Load (load.Panicked t)) meets;
        lowest = subst (LoadVerdict plan meets.outcome) (panicked_verdict meets.verdict t meets.is_answer) meets.is_verdict;
      }

  panicked_halts : (state : State) (one : Command) (did : Did) (t : ℕ) → SessionStep true setting state one did →
      did.answer ≡ Load (load.Panicked t) → HaltsIn t did
  panicked_halts state (command.Load force names beats) did t step is =
      panicked_met state force names beats did t (subst (LoadRow true setting state force names beats did) is step).1
  panicked_halts state (command.Boot names) did t step is = absurd (subst (BootRow setting state names did) is step).1
  panicked_halts state (command.Online t') did t step is =
      rise_answers state (online setting state t') t (sym (ap (λ (d : Did). d.answer) step) ∙ is)
  panicked_halts state command.Resume did t step is =
      rise_answers state (resume (machine_of setting) (cached_patches state) state.hardware) t
      (sym (ap (λ (d : Did). d.answer) step) ∙ is)
  panicked_halts state (command.Offline t') did t step is =
      row_answers state (calls.soft_offline state.hardware t') t (sym (ap (λ (d : Did). d.answer) step) ∙ is)
  panicked_halts state command.Suspend did t step is =
      row_answers state (calls.suspend (machine_of setting) state.hardware) t (sym (ap (λ (d : Did). d.answer) step) ∙ is)
  panicked_halts state (command.Refuse core) did t step is =
      let wrong : Done ≡ Load (load.Panicked t) = sym (ap (λ (d : Did). d.answer) step) ∙ is in absurd cc
  panicked_halts state (command.Accept core) did t step is =
      let wrong : Done ≡ Load (load.Panicked t) = sym (ap (λ (d : Did). d.answer) step) ∙ is in absurd cc

  met_panicked : (state : State) (force : Bool) (names : List (List ℕ)) (beats : List Beat) (did : Did) (t : ℕ) →
      HaltsIn t did → IsQuiet did ⊎ Meets true setting state force names beats did did.answer →
      did.answer ≡ Load (load.Panicked t)
  met_panicked state force names beats did t halts (inl quiet) = none_some did.ran halts.ran quiet.none_ran halts.is_ran
  met_panicked state force names beats did t halts (inr meets) =
      let plan : Plan = plan_of setting state meets.puts meets.offers in
      let its : RunOf = run_of plan meets.outcome meets.late in
      let both : Some its ≡ Some halts.ran = sym (meets_ran state force names beats did did.answer meets) ∙ halts.is_ran in
      let same : halts.ran ≡ its = cc in
      let lowest : LoadVerdict plan meets.outcome (verdict.Panicked t) =
      subst (λ (run : RunOf). verdict.IsLowest run.plan (verdict.halted_at run.outcome) t) same halts.lowest in
      let found : meets.verdict ≡ verdict.Panicked t =
      one_verdict plan meets.outcome meets.verdict meets.is_verdict
      ∙ sym (one_verdict plan meets.outcome (verdict.Panicked t) lowest) in
      meets.is_answer ∙ ap answer_of found

  halts_panicked : (state : State) (one : Command) (did : Did) (t : ℕ) → SessionStep true setting state one did →
      HaltsIn t did → did.answer ≡ Load (load.Panicked t)
  halts_panicked state (command.Load force names beats) did t step halts =
      met_panicked state force names beats did t halts (quiet_or_met true setting state force names beats did did.answer step)
  halts_panicked state (command.Boot names) did t step halts =
      none_some did.ran halts.ran (boot_quiet setting state names did did.answer step).none_ran halts.is_ran
  halts_panicked state (command.Online t') did t step halts =
      none_some did.ran halts.ran (as_other did _ step (rise_quiet state (online setting state t'))).none_ran halts.is_ran
  halts_panicked state command.Resume did t step halts =
      none_some did.ran halts.ran
      (as_other did _ step (rise_quiet state (resume (machine_of setting) (cached_patches state) state.hardware))).none_ran
      halts.is_ran
  halts_panicked state (command.Offline t') did t step halts =
      none_some did.ran halts.ran (as_other did _ step (row_quiet state (calls.soft_offline state.hardware t'))).none_ran
      halts.is_ran
  halts_panicked state command.Suspend did t step halts =
      none_some did.ran halts.ran
      (as_other did _ step (row_quiet state (calls.suspend (machine_of setting) state.hardware))).none_ran halts.is_ran
  halts_panicked state (command.Refuse core) did t step halts =
      none_some did.ran halts.ran
      (as_other did (set_refusal setting state core true) step (record { none_ran = refl; none_shown = refl })).none_ran
      halts.is_ran
  halts_panicked state (command.Accept core) did t step halts =
      none_some did.ran halts.ran
      (as_other did (set_refusal setting state core false) step (record { none_ran = refl; none_shown = refl })).none_ran
      halts.is_ran

  -- ---- a session that a thread that halted ended

  at_first : (did : Did) (dids : List Did) (t : ℕ) → HaltsIn t did → OneDid (did ∷ dids) (HaltsIn t)
  at_first did dids t halts = record { place = 0; did = did; there = refl; is = halts }

  behind : {Is : Did → Type 0} (first : Did) (dids : List Did) → OneDid dids Is → OneDid (first ∷ dids) Is
  behind first dids one = record { place = suc one.place; did = one.did; there = one.there; is = one.is }

  ended_first : (did : Did) (dids : List Did) (answer : CommandAnswer) (t : ℕ) →
      (did.answer ≡ Load (load.Panicked t) → HaltsIn t did) → did.answer ≡ answer →
      (first_end dids ≡ Some (session.Panicked t) → OneDid dids (HaltsIn t)) →
      or_else (ended_by answer) (first_end dids) ≡ Some (session.Panicked t) → OneDid (did ∷ dids) (HaltsIn t)
  ended_first did dids (Load (load.ReadFault file)) t halts its later is = absurd cc
  ended_first did dids (Load (load.BadFile file fault)) t halts its later is = absurd cc
  ended_first did dids (Load (load.Panicked u)) t halts its later is =
      let same : u ≡ t = cc in at_first did dids t (halts (its ∙ ap (λ (t : ℕ). Load (load.Panicked t)) same))
  ended_first did dids answer t halts its later is = behind did dids (later is)

  ended_halts : (dids : List Did) (state : State) (commands : List Command) (t : ℕ) →
      StepsFrom true setting state commands dids → first_end dids ≡ Some (session.Panicked t) → OneDid dids (HaltsIn t)
  ended_halts [] state commands t steps is = absurd cc
  ended_halts (did ∷ dids) state [] t steps is = absurd steps
  ended_halts (did ∷ dids) state (one ∷ commands) t steps is =
      ended_first did dids did.answer t (panicked_halts state one did t steps.0) refl
      (ended_halts dids did.after (left_to_run (ends_session did.answer) commands) t steps.1) is

  not_ended : (answer : CommandAnswer) → ends_session answer ≡ false → ended_by answer ≡ None
  not_ended (Load (load.ReadFault file)) goes = absurd (true≢false goes)
  not_ended (Load (load.BadFile file fault)) goes = absurd (true≢false goes)
  not_ended (Load (load.Panicked t)) goes = absurd (true≢false goes)
  not_ended answer goes = refl

  -- a command behind which there is another did not end the session
  goes_on : (ends : Bool) (state : State) (commands : List Command) (dids : List Did) (place : ℕ) (did : Did) →
      StepsFrom true setting state (left_to_run ends commands) dids → slice_get dids place ≡ Some did → ends ≡ false
  goes_on false state commands dids place did steps there = refl
  goes_on true state commands [] place did steps there = absurd cc
  goes_on true state commands (other ∷ dids) place did steps there = absurd steps

  halts_ended : (dids : List Did) (state : State) (commands : List Command) (t place : ℕ) (did : Did) →
      StepsFrom true setting state commands dids → slice_get dids place ≡ Some did → HaltsIn t did →
      first_end dids ≡ Some (session.Panicked t)
  halts_ended [] state commands t place did steps there halts = absurd cc
  halts_ended (first ∷ dids) state [] t place did steps there halts = absurd steps
  halts_ended (first ∷ dids) state (one ∷ commands) t zero did steps there halts =
      let same : did ≡ first = cc in
      let its : first.answer ≡ Load (load.Panicked t) =
      halts_panicked state one first t steps.0 (subst (HaltsIn t) same halts) in
      ap (λ (answer : CommandAnswer). or_else (ended_by answer) (first_end dids)) its
  halts_ended (first ∷ dids) state (one ∷ commands) t (suc place) did steps there halts =
      let goes : ends_session first.answer ≡ false =
      goes_on (ends_session first.answer) first.after commands dids place did steps.1 there in
      ap (λ (end : Option SessionAnswer). or_else end (first_end dids)) (not_ended first.answer goes)
      ∙ halts_ended dids first.after (left_to_run (ends_session first.answer) commands) t place did steps.1 there halts

-- ---- what the session's answer says

by_end : (end : Option SessionAnswer) (done : Bool) (t : ℕ) → answer_by end done ≡ session.Panicked t →
    end ≡ Some (session.Panicked t)
by_end (Some answer) done t is = ap Some is
by_end None true t is = absurd cc
by_end None false t is = absurd cc

status_halted : (answer : SessionAnswer) (t : ℕ) → status_of answer ≡ statuses.Panicked t → answer ≡ session.Panicked t
status_halted (session.Panicked u) t is = let same : u ≡ t = cc in ap session.Panicked same
status_halted session.Ended t is = absurd cc
status_halted session.Short t is = absurd cc
status_halted session.BadInput t is = absurd cc
status_halted session.ReadFault t is = absurd cc
status_halted session.WriteFault t is = absurd cc
status_halted session.NoMemory t is = absurd cc

status_short : (answer : SessionAnswer) → status_of answer ≡ statuses.Short → answer ≡ session.Short
status_short session.Short is = refl
status_short session.Ended is = absurd cc
status_short session.BadInput is = absurd cc
status_short session.ReadFault is = absurd cc
status_short session.WriteFault is = absurd cc
status_short (session.Panicked t) is = absurd cc
status_short session.NoMemory is = absurd cc

-- ---- a session that is short

-- no command ends a session with that answer
never_short : (answer : CommandAnswer) (rest : Option SessionAnswer) → (rest ≡ Some session.Short → ⊥) →
    or_else (ended_by answer) rest ≡ Some session.Short → ⊥
never_short (Load (load.ReadFault file)) rest none is = absurd cc
never_short (Load (load.BadFile file fault)) rest none is = absurd cc
never_short (Load (load.Panicked t)) rest none is = absurd cc
never_short answer rest none is = none is

no_short_end : (dids : List Did) → first_end dids ≡ Some session.Short → ⊥
no_short_end [] is = absurd cc
no_short_end (did ∷ dids) is = never_short did.answer (first_end dids) (no_short_end dids) is

short_by : (end : Option SessionAnswer) (done : Bool) → (end ≡ Some session.Short → ⊥) →
    answer_by end done ≡ session.Short → (end ≡ None) × (done ≡ false)
short_by (Some answer) done never is = absurd (never (ap Some is))
short_by None true never is = absurd cc
short_by None false never is = (refl, refl)

one_behind : {Is : Did → Type 0} (first : Did) (dids : List Did) → OneDid dids Is → OneDid (first ∷ dids) Is
one_behind first dids one = record { place = suc one.place; did = one.did; there = one.there; is = one.is }

not_done : (answer : CommandAnswer) → is_done answer ≡ false → answer ≢ Done
not_done answer not_so is = true≢false (sym (ap is_done is) ∙ not_so)

done_not : (answer : CommandAnswer) → answer ≢ Done → is_done answer ≡ false
done_not Done other = absurd (other refl)
done_not answer other = refl

some_not_done : (did : Did) (dids : List Did) (done : Bool) → is_done did.answer ≡ done →
    (all_done dids ≡ false → OneDid dids (λ did. did.answer ≢ Done)) → (done && all_done dids) ≡ false →
    OneDid (did ∷ dids) (λ did. did.answer ≢ Done)
some_not_done did dids false its later is =
    record { place = 0; did = did; there = refl; is = not_done did.answer its }
some_not_done did dids true its later is = one_behind did dids (later is)

not_all_done : (dids : List Did) → all_done dids ≡ false → OneDid dids (λ did. did.answer ≢ Done)
not_all_done [] is = absurd (true≢false is)
not_all_done (did ∷ dids) is = some_not_done did dids (is_done did.answer) refl (not_all_done dids) is

and_false : (b c : Bool) → c ≡ false → (b && c) ≡ false
and_false true c is = is
and_false false c is = refl

one_not_done : (dids : List Did) (place : ℕ) (did : Did) → slice_get dids place ≡ Some did → did.answer ≢ Done →
    all_done dids ≡ false
one_not_done [] place did there other = absurd cc
one_not_done (first ∷ dids) zero did there other =
    let same : did ≡ first = cc in
    ap (λ (b : Bool). b && all_done dids) (done_not first.answer (λ is. other (ap (λ (d : Did). d.answer) same ∙ is)))
one_not_done (first ∷ dids) (suc place) did there other =
    and_false (is_done first.answer) (all_done dids) (one_not_done dids place did there other)

own_or_none : (answer : CommandAnswer) → HasOwnStatus answer ⊎ (ended_by answer ≡ None)
own_or_none (Load (load.ReadFault file)) = inl tt
own_or_none (Load (load.BadFile file fault)) = inl tt
own_or_none (Load (load.Panicked t)) = inl tt
own_or_none answer = inr refl

own_ends : (answer : CommandAnswer) (rest : Option SessionAnswer) → HasOwnStatus answer →
    or_else (ended_by answer) rest ≡ None → ⊥
own_ends (Load (load.ReadFault file)) rest own is = absurd cc
own_ends (Load (load.BadFile file fault)) rest own is = absurd cc
own_ends (Load (load.Panicked t)) rest own is = absurd cc
own_ends answer rest own is = own

rest_none : (answer : CommandAnswer) (rest : Option SessionAnswer) → or_else (ended_by answer) rest ≡ None → rest ≡ None
rest_none (Load (load.ReadFault file)) rest is = absurd cc
rest_none (Load (load.BadFile file fault)) rest is = absurd cc
rest_none (Load (load.Panicked t)) rest is = absurd cc
rest_none answer rest is = is

none_own : (dids : List Did) (place : ℕ) (did : Did) → first_end dids ≡ None → slice_get dids place ≡ Some did →
    HasOwnStatus did.answer → ⊥
none_own [] place did is there own = absurd cc
none_own (first ∷ dids) zero did is there own =
    let same : did ≡ first = cc in
    own_ends first.answer (first_end dids) (subst (λ (d : Did). HasOwnStatus d.answer) same own) is
none_own (first ∷ dids) (suc place) did is there own =
    none_own dids place did (rest_none first.answer (first_end dids) is) there own

no_end : (dids : List Did) → (OneDid dids (λ did. HasOwnStatus did.answer) → ⊥) → first_end dids ≡ None
no_end [] none = refl
no_end (did ∷ dids) none = elim (own_or_none did.answer) [
  | inl own ↦ absurd (none (record { place = 0; did = did; there = refl; is = own }))
  | inr not_so ↦
      ap (λ (end : Option SessionAnswer). or_else end (first_end dids)) not_so
      ∙ no_end dids (λ one. none (one_behind did dids one))
]

is_short : (dids : List Did) → session_answer dids ≡ session.Short → IsShort dids
is_short dids is =
    let parts = short_by (first_end dids) (all_done dids) (no_short_end dids) is in
    record {
      some_not_done = not_all_done dids parts.1;
      none_of_its_own = λ one. none_own dids one.place one.did parts.0 one.there one.is;
    }

short_is : (dids : List Did) → IsShort dids → session_answer dids ≡ session.Short
short_is dids short =
    let one = short.some_not_done in
    ap (λ (end : Option SessionAnswer). answer_by end (all_done dids)) (no_end dids short.none_of_its_own)
    ∙ ap short_unless (one_not_done dids one.place one.did one.there one.is)

-- ---- a session's status

pub record SessionEnds (dids : List Did) (status : Status) : Type 0 where
  pub short : (status ≡ statuses.Short) ↔ IsShort dids
  pub halted : (t : ℕ) → (status ≡ statuses.Panicked t) ↔ OneDid dids (HaltsIn t)

session_ends : VerdictIsOne → (setting : Setting) (commands : List Command) (dids : List Did) (answer : SessionAnswer)
    (status : Status) → Steps true setting commands dids → answer ≡ session_answer dids → status ≡ status_of answer →
    SessionEnds dids status
session_ends one_verdict setting commands dids answer status steps is_answer is_status = record {
  short = (
    λ is. is_short dids (sym is_answer ∙ status_short answer (sym is_status ∙ is)),
    λ short. is_status ∙ ap status_of (is_answer ∙ short_is dids short),
  );
  halted = λ t. (
    λ is. ended_halts one_verdict setting dids (opening_state setting) commands t steps
        (by_end (first_end dids) (all_done dids) t (sym is_answer ∙ status_halted answer t (sym is_status ∙ is))),
    λ one. is_status
        ∙ ap status_of (is_answer
        ∙ ap (λ (end : Option SessionAnswer). answer_by end (all_done dids))
        (halts_ended one_verdict setting dids (opening_state setting) commands t one.place one.did steps one.there one.is)),
  );
}

-- ---- a text

-- neither of the two statuses
abbrev Others : Status → Type 0
Others status = (status ≢ statuses.Short) × ((t : ℕ) → status ≢ statuses.Panicked t)

faulty_others : (i : ℕ) (reads : List Read) (files : Option ℕ) (text : List ℕ) (status : Status) →
    AskedText (Faulty i) reads files text status → Others status
faulty_others i reads None text (statuses.Usage k) is = (λ e. cc, λ t e. cc)
faulty_others i reads files text status is = absurd is

stops_others : (outcome : Outcome) (text : List ℕ) (status : Status) → StopsAt outcome text status → Others status
stops_others (NotRead name) text ReadFault is = (λ e. cc, λ t e. cc)
stops_others (Refused name offset cause) text BadInput is = (λ e. cc, λ t e. cc)
stops_others outcome text status is = absurd is

listed_others : (names : List (List ℕ)) (outcome : Outcome) (text : List ℕ) (status : Status) →
    Listed names outcome text status → Others status
listed_others names (AllRead readings) text statuses.Done is = (λ e. cc, λ t e. cc)
listed_others names outcome text status is = stops_others outcome text status is

shown_others : (number : ℕ) (outcome : Outcome) (text : List ℕ) (status : Status) → Shown number outcome text status →
    Others status
shown_others number (AllRead readings) text statuses.Done is = (λ e. cc, λ t e. cc)
shown_others number (AllRead readings) text BadInput is = (λ e. cc, λ t e. cc)
shown_others number outcome text status is = stops_others outcome text status is

selected_others : (machine : Machine) (outcome : Outcome) (text : List ℕ) (status : Status) →
    Selected machine outcome text status → Others status
selected_others machine (AllRead readings) text statuses.Done is = (λ e. cc, λ t e. cc)
selected_others machine outcome text status is = stops_others outcome text status is

fails_others : (topology : List ℕ) (reads : List Read) (files : Option ℕ) (text : List ℕ) (status : Status) →
    FailsAt topology reads files text status → Others status
fails_others topology reads (Some k) text ReadFault is = (λ e. cc, λ t e. cc)
fails_others topology reads None text BadInput is = (λ e. cc, λ t e. cc)
fails_others topology reads files text status is = absurd is

script_others : (script : List ℕ) (machine : Machine) (reads : List Read) (files : Option ℕ) (text : List ℕ)
    (status : Status) → ScriptFailsAt script machine reads files text status → Others status
script_others script machine reads (Some k) text ReadFault is = (λ e. cc, λ t e. cc)
script_others script machine reads None text BadInput is = (λ e. cc, λ t e. cc)
script_others script machine reads files text status is = absurd is

module _ (one_verdict : VerdictIsOne) (reads : List Read) (files : Option ℕ) (text : List ℕ) (status : Status) where
  -- a text of no session
  abbrev Caused : Asked → Type 0
  Caused line = CausedText line reads files text status

  abbrev Of : Asked → List Did → Type 0
  Of line dids = IsSessionOf line reads files text status dids

  -- from what holds of each session that the text is of, and of the text's status where it is of none
  caused : (line : Asked) → AskedText line reads files text status →
      ((dids : List Did) → Of line dids → SessionEnds dids status) → Others status ⊎ ((dids : List Did) × Of line dids) →
      Caused line
  caused line is each (inl others) = record {
    is_text = is;
    short = (λ e. absurd (others.0 e), λ some. (each some.dids some.is_session).short.1 some.is);
    panicked = λ t. (λ e. absurd (others.1 t e), λ some. ((each some.dids some.is_session).halted t).1 some.is);
  }
  caused line is each (inr some) =
      let ends : SessionEnds some.0 status = each some.0 some.1 in
      record {
        is_text = is;
        short = (
          λ e. record { dids = some.0; is_session = some.1; is = ends.short.0 e },
          λ other. (each other.dids other.is_session).short.1 other.is,
        );
        panicked = λ t. (
          λ e. record { dids = some.0; is_session = some.1; is = (ends.halted t).0 e },
          λ other. ((each other.dids other.is_session).halted t).1 other.is,
        );
      }

  played_ends : (topology script : List ℕ) (dids : List Did) → Of (PlayOf topology script) dids → SessionEnds dids status
  played_ends topology script dids of =
      let machine = of.0 in
      let plays = of.3 in
      subst (λ (ds : List Did). SessionEnds ds status) (sym of.4)
      (session_ends one_verdict (setting_of machine plays.stated) plays.stated.commands plays.plays.dids plays.answer status
      plays.plays.steps plays.plays.is_answer plays.is_status)

  generated_ends : (number : ℕ) (dids : List Did) → Of (GenOf number) dids → SessionEnds dids status
  generated_ends number dids of =
      let gen = of.0 in
      let its = gen.generated in
      subst (λ (ds : List Did). SessionEnds ds status) (sym of.1)
      (session_ends one_verdict (setting_of its.machine its.stated) its.stated.commands its.plays.dids gen.answer status
      its.plays.steps its.plays.is_answer gen.is_status)

  script_caused : (topology script : List ℕ) (machine : Machine) (behind : List Read) →
      StatesMachine topology machine reads behind →
      ScriptFailsAt script machine behind files text status ⊎ PlaysScript script machine behind files text status →
      Others status ⊎ ((dids : List Did) × Of (PlayOf topology script) dids)
  script_caused topology script machine behind states (inl fails) =
      inl (script_others script machine behind files text status fails)
  script_caused topology script machine behind states (inr plays) =
      inr (plays.plays.dids, (machine, behind, states, plays, refl))

  play_caused : (topology script : List ℕ) →
      FailsAt topology reads files text status ⊎ PlaysFor topology script reads files text status →
      Others status ⊎ ((dids : List Did) × Of (PlayOf topology script) dids)
  play_caused topology script (inl fails) = inl (fails_others topology reads files text status fails)
  play_caused topology script (inr plays) =
      script_caused topology script plays.machine plays.behind plays.states plays.played

  select_others : (topology : List ℕ) (names : List (List ℕ)) →
      FailsAt topology reads files text status ⊎ SelectsFor topology names reads files text status → Others status
  select_others topology names (inl fails) = fails_others topology reads files text status fails
  select_others topology names (inr selects) =
      selected_others selects.machine selects.outcome text status selects.selected

  text_caused : (line : Asked) → AskedText line reads files text status → Caused line
  text_caused (Faulty i) is = caused (Faulty i) is (λ dids of. absurd of) (inl (faulty_others i reads files text status is))
  text_caused (ListOf names) is =
      caused (ListOf names) is (λ dids of. absurd of) (inl (listed_others names is.outcome text status is.listed))
  text_caused (ShowOf name number) is =
      caused (ShowOf name number) is (λ dids of. absurd of) (inl (shown_others number is.outcome text status is.shown))
  text_caused (SelectOf topology names) is =
      caused (SelectOf topology names) is (λ dids of. absurd of) (inl (select_others topology names is))
  text_caused (PlayOf topology script) is =
      caused (PlayOf topology script) is (played_ends topology script) (play_caused topology script is)
  text_caused (GenOf number) is =
      caused (GenOf number) is (generated_ends number) (inr (is.generated.plays.dids, (is, refl)))

pub texts_have_causes : VerdictIsOne → TextsHaveCauses
texts_have_causes one_verdict line reads files text status is = text_caused one_verdict reads files text status line is
