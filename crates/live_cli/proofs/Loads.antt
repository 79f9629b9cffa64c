-- What a load comes to whose rendezvous lists nothing.
use Rattle.std.proofs.Common.{◌≡◌, ℕ, Bool, true, false, List, [], Option, Some, refl, sym, ◌∙◌, ap, subst, arith}
use Rattle.std.specs.Option.{unwrap_or}
use Rattle.std.proofs.lemmas.Bool.{false≢true}
use Rattle.std.proofs.lemmas.Option.{none-some}
use Rattle.read_model.specs.Reads.{Read}
use Rattle.tool_text.specs.rendezvous_steps.declared.ends.Beat.{Beat}
use Rattle.tool_text.specs.rendezvous_steps.declared.ends.End.{End}
use Rattle.tool_text.specs.rendezvous_steps.declared.ends.End.TheVariants as ends
use Rattle.tool_text.specs.rendezvous_steps.Plan.{Plan, Sound}
use Rattle.tool_text.specs.rendezvous_model.Outcome.{Outcome}
use Rattle.tool_text.specs.rendezvous_model.Verdict.{Verdict, LoadVerdict, ended_halted, end_at}
use Rattle.tool_text.specs.rendezvous_model.Verdict as verdict
use Rattle.tool_text.specs.rendezvous_rule.Ran.{Unlisted}
use Rattle.tool_text.specs.rendezvous_rule.Runs.{RunOf}
use Rattle.round_laws.specs.Laws.{VerdictIsOne}
use Rattle.play_laws.specs.Patient.{NoneRefuses, InTimeIsDone}
use Rattle.session_text.specs.declared.answers.CommandAnswer.{CommandAnswer}
use Rattle.session_text.specs.declared.answers.CommandAnswer.TheVariants as answers
use Rattle.session_text.specs.declared.answers.LoadAnswer.TheVariants as load
use Rattle.tool_text.specs.session_steps.State.{Setting, State}
use Rattle.tool_text.specs.session_steps.Offers.{plan_of}
use Rattle.tool_text.specs.session_steps.Did.{Did, only}
use Rattle.tool_text.specs.session_steps.Step.{LoadRow, Meets, met, run_of, answer_of}
use Rattle.live_cli.specs.Loads.{LoadsInTime, LateLoads, WasLate, tells_of_patience}

pub some_is : {A : Type 0} (a b : A) → Some a ≡ Some b → a ≡ b
some_is {A = A} a b is = ap (λ (o : Option A). unwrap_or o a) is

-- a command that held no rendezvous
no_run : {P : Type 0} (state : State) (reads : List Read) (answer : CommandAnswer) (did : Did) (run : RunOf) →
    did ≡ only state reads answer → did.ran ≡ Some run → P
no_run state reads answer did run is ran =
    absurd (none-some run (sym (ap (λ (d : Did). d.ran) is) ∙ ran))

halted : (end : End) → ended_halted end ≡ true → end ≡ ends.Halted
halted ends.Halted is = refl
halted ends.Absent is = absurd (false≢true is)
halted ends.Withdrawn is = absurd (false≢true is)
halted ends.Unfinished is = absurd (false≢true is)
halted (ends.Left result) is = absurd (false≢true is)

-- a verdict on a rendezvous in which no thread gave up tells of no patience that ran out
patient : (plan : Plan) (text : List ℕ) (outcome : Outcome) (v : Verdict) → Unlisted plan text outcome false →
    LoadVerdict plan outcome v → tells_of_patience (answer_of v) ≡ true → ⊥
patient plan text outcome verdict.Done unlisted holds tells = false≢true tells
patient plan text outcome (verdict.Panicked t) unlisted holds tells =
    unlisted.in_time_none_halted refl t holds.within (halted (end_at outcome t) holds.passes)
patient plan text outcome (verdict.Unfinished t) unlisted holds tells = false≢true tells
patient plan text outcome (verdict.OfflineSilent kicks) unlisted holds tells =
    omega (arith, unlisted.in_time refl, holds.1)
patient plan text outcome (verdict.TimedOut t) unlisted holds tells =
    omega (arith, unlisted.in_time refl, holds.1)
patient plan text outcome (verdict.Failed t) unlisted holds tells = false≢true tells
patient plan text outcome (verdict.Incomplete t) unlisted holds tells = false≢true tells

module _ (setting : Setting) (state : State) (force : Bool) (names : List (List ℕ)) (beats : List Beat) (did : Did) where
  abbrev MeetsSo : CommandAnswer → Type 0
  MeetsSo answer = Meets false setting state force names beats did answer

  -- the run that a load held
  pub ran_of : (answer : CommandAnswer) (is : MeetsSo answer) →
      did.ran ≡ Some (run_of (plan_of setting state is.puts is.offers) is.outcome is.late)
  unfolding met
  ran_of answer is = ap (λ (d : Did). d.ran) is.does

  -- ---- in time

  module _ (one : VerdictIsOne) (in_time : InTimeIsDone) (run : RunOf) (ran : did.ran ≡ Some run)
      (not_late : run.late ≡ false) (none : NoneRefuses run.plan) where
    done_of : (plan : Plan) (text : List ℕ) (outcome : Outcome) (late : Bool) (v : Verdict) → Sound plan →
        run_of plan outcome late ≡ run → Unlisted plan text outcome late → LoadVerdict plan outcome v →
        v ≡ verdict.Done
    done_of plan text outcome late v sound same unlisted holds =
        let is_late : late ≡ false = ap (λ (r : RunOf). r.late) same ∙ not_late in
        let willing : NoneRefuses plan = subst NoneRefuses (sym (ap (λ (r : RunOf). r.plan) same)) none in
        let done : LoadVerdict plan outcome verdict.Done =
        in_time plan text outcome sound (subst (Unlisted plan text outcome) is_late unlisted) willing in
        one plan outcome v holds ∙ sym (one plan outcome verdict.Done done)

    meets_done : (answer : CommandAnswer) → MeetsSo answer → answer ≡ answers.Done
    meets_done answer is =
        let plan : Plan = plan_of setting state is.puts is.offers in
        let same : run_of plan is.outcome is.late ≡ run =
        some_is (run_of plan is.outcome is.late) run (sym (ran_of answer is) ∙ ran) in
        is.is_answer
        ∙ ap answer_of
        (done_of plan is.items is.outcome is.late is.verdict is.sound same is.ran is.is_verdict)

    pub in_time_row : (answer : CommandAnswer) → LoadRow false setting state force names beats did answer →
        answer ≡ answers.Done
    in_time_row answers.Done row = refl
    in_time_row (answers.Hot answer) row = absurd row.1
    in_time_row (answers.Load load.Done) row = meets_done (answers.Load load.Done) row.1
    in_time_row (answers.Load (load.Busy t)) row = no_run state [] (answers.Load (load.Busy t)) did run row.1 ran
    in_time_row (answers.Load (load.ReadFault file)) row =
        no_run state did.reads (answers.Load (load.ReadFault file)) did run row.1.did_only ran
    in_time_row (answers.Load (load.BadFile file fault)) row =
        no_run state did.reads (answers.Load (load.BadFile file fault)) did run row.1.did_only ran
    in_time_row (answers.Load load.NotFound) row =
        no_run state did.reads (answers.Load load.NotFound) did run row.1.did_only ran
    in_time_row (answers.Load (load.PoolFull needed)) row =
        no_run state did.reads (answers.Load (load.PoolFull needed)) did run row.1.did_only ran
    in_time_row (answers.Load (load.Panicked t)) row = meets_done (answers.Load (load.Panicked t)) row.1
    in_time_row (answers.Load (load.Unfinished t)) row = meets_done (answers.Load (load.Unfinished t)) row.1
    in_time_row (answers.Load (load.OfflineSilent k)) row = meets_done (answers.Load (load.OfflineSilent k)) row.1
    in_time_row (answers.Load (load.TimedOut t)) row = meets_done (answers.Load (load.TimedOut t)) row.1
    in_time_row (answers.Load (load.Failed t)) row = meets_done (answers.Load (load.Failed t)) row.1
    in_time_row (answers.Load (load.Incomplete t)) row = meets_done (answers.Load (load.Incomplete t)) row.1

  -- ---- late

  late_by : (answer : CommandAnswer) → MeetsSo answer → tells_of_patience answer ≡ true → WasLate did
  late_by answer is tells =
      let plan : Plan = plan_of setting state is.puts is.offers in
      let of_verdict : tells_of_patience (answer_of is.verdict) ≡ true =
      sym (ap tells_of_patience is.is_answer) ∙ tells in
      by is.late refl of_verdict
    where
      by : (late : Bool) → is.late ≡ late → tells_of_patience (answer_of is.verdict) ≡ true → WasLate did
      by true so of_verdict = record {
        run = run_of (plan_of setting state is.puts is.offers) is.outcome is.late;
        ran = ran_of answer is;
        late = so;
      }
      by false so of_verdict =
          absurd (patient (plan_of setting state is.puts is.offers) is.items is.outcome is.verdict
          (subst (Unlisted (plan_of setting state is.puts is.offers) is.items is.outcome) so is.ran)
          is.is_verdict of_verdict)

  late_row : (answer : CommandAnswer) → LoadRow false setting state force names beats did answer →
      tells_of_patience answer ≡ true → WasLate did
  late_row (answers.Load (load.Panicked t)) row tells = late_by (answers.Load (load.Panicked t)) row.1 tells
  late_row (answers.Load (load.OfflineSilent k)) row tells = late_by (answers.Load (load.OfflineSilent k)) row.1 tells
  late_row (answers.Load (load.TimedOut t)) row tells = late_by (answers.Load (load.TimedOut t)) row.1 tells
  late_row answer row tells = absurd (false≢true tells)

pub loads_in_time : VerdictIsOne → InTimeIsDone → LoadsInTime
loads_in_time one in_time setting state force names beats did run step ran not_late none =
    in_time_row setting state force names beats did one in_time run ran not_late none did.answer step

pub late_loads : LateLoads
late_loads setting state force names beats did step tells =
    late_row setting state force names beats did did.answer step tells
