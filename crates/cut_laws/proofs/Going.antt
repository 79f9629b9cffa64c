-- Commands that were done, and what is done behind them.
use Rattle.std.proofs.Common.{◌≡◌, ◌++◌, ℕ, ◌+◌, suc, Bool, true, false, List, [], ◌∷◌, length, Option, Some, None, refl, sym, ap, ◌∙◌, subst, arith, append_assoc}
use Rattle.std.specs.List.{All}
use Rattle.std.proofs.lemmas.List.Elements.{All-head, All-tail}
use Rattle.uc_topology.specs.Stated.{IsPartition}
use Rattle.read_model.specs.Reads.{Read}
use Rattle.read_model.proofs.Outcomes.{held_nil}
use Rattle.rendezvous_rule.specs.Runs.{RunOf}
use Rattle.script_text.specs.declared.command.Command.{Command}
use Rattle.session_steps.specs.State.{Setting, State, opening_state}
use Rattle.session_steps.specs.Did.{Did}
use Rattle.session_steps.specs.Step.{SessionStep}
use Rattle.session_steps.specs.Session.{Steps, StepsFrom, ends_session, left_to_run, text_of, texts_from, all_reads, with_run, all_runs, session_answer}
use Rattle.session_steps.specs.Whole.{is_unread}
use Rattle.session_laws.specs.Standing.{Standing, InRange, OpeningStands, StepsStand}
use Rattle.command_laws.specs.Steps.{SomeSteps, SessionsExist}
use Rattle.cut_laws.specs.SoFar.{StepsTo}
use Rattle.cut_laws.specs.Laws.{GoesOn, BegunGoesOn}
use Rattle.cut_laws.proofs.Answered.{goes_on_read, end_unread, answer_of_end, unread_behind}

-- ---- lists of what commands did

pub reads-append : (dids more : List Did) → all_reads (dids ++ more) ≡ all_reads dids ++ all_reads more
reads-append [] more = refl
reads-append (did ∷ dids) more =
    ap (λ (reads : List Read). did.reads ++ reads) (reads-append dids more)
    ∙ sym (append_assoc did.reads (all_reads dids) (all_reads more))

with_run-append : (ran : Option RunOf) (runs more : List RunOf) →
    with_run ran (runs ++ more) ≡ with_run ran runs ++ more
with_run-append None runs more = refl
with_run-append (Some run) runs more = refl

pub runs-append : (dids more : List Did) → all_runs (dids ++ more) ≡ all_runs dids ++ all_runs more
runs-append [] more = refl
runs-append (did ∷ dids) more =
    ap (with_run did.ran) (runs-append dids more) ∙ with_run-append did.ran (all_runs dids) (all_runs more)

module _ (lists : Bool) (setting : Setting) where
  -- ---- the commands behind

  pub texts-behind : (k : ℕ) (state : State) (done : List Command) (dids : List Did) (after : State)
      (rest : List Command) (more : List Did) → StepsTo lists setting state done dids after →
      texts_from k (done ++ rest) (dids ++ more) ≡ texts_from k done dids ++ texts_from (k + length done) rest more
  texts-behind k state [] [] after rest more steps =
      ap (λ (n : ℕ). texts_from n rest more) (omega arith)
  texts-behind k state (one ∷ done) (did ∷ dids) after rest more steps =
      let same : k + 1 + length done ≡ k + suc (length done) = omega arith in
      ap (λ (text : List ℕ). text_of k one did ++ text)
      (texts-behind (k + 1) did.after done dids after rest more steps.2
      ∙ ap (λ (n : ℕ). texts_from (k + 1) done dids ++ texts_from n rest more) same)
      ∙ sym (append_assoc (text_of k one did) (texts_from (k + 1) done dids)
      (texts_from (k + suc (length done)) rest more))
  texts-behind k state [] (did ∷ dids) after rest more steps = absurd steps
  texts-behind k state (one ∷ done) [] after rest more steps = absurd steps

  pub steps-behind : (state : State) (done : List Command) (dids : List Did) (after : State)
      (rest : List Command) (more : List Did) → StepsTo lists setting state done dids after →
      StepsFrom lists setting after rest more →
      StepsFrom lists setting state (done ++ rest) (dids ++ more)
  steps-behind state [] [] after rest more steps behind =
      subst (λ (s : State). StepsFrom lists setting s rest more) steps behind
  steps-behind state (one ∷ done) (did ∷ dids) after rest more steps behind = (
    steps.0,
    subst (λ (b : Bool). StepsFrom lists setting did.after (left_to_run b (done ++ rest)) (dids ++ more))
        (sym steps.1) (steps-behind did.after done dids after rest more steps.2 behind),
  )
  steps-behind state [] (did ∷ dids) after rest more steps behind = absurd steps
  steps-behind state (one ∷ done) [] after rest more steps behind = absurd steps

  pub one_more_step : (state : State) (done : List Command) (dids : List Did) (after : State) (one : Command)
      (did : Did) →
      StepsTo lists setting state done dids after → SessionStep lists setting after one did →
      ends_session did.answer ≡ false →
      StepsTo lists setting state (done ++ one ∷ []) (dids ++ did ∷ []) did.after
  one_more_step state [] [] after one did steps step goes_on =
      (subst (λ (s : State). SessionStep lists setting s one did) steps step, goes_on, refl)
  one_more_step state (first ∷ done) (first_did ∷ dids) after one did steps step goes_on =
      (steps.0, steps.1, one_more_step first_did.after done dids after one did steps.2 step goes_on)
  one_more_step state [] (first_did ∷ dids) after one did steps step goes_on = absurd steps
  one_more_step state (first ∷ done) [] after one did steps step goes_on = absurd steps

  -- one that ends the session is its last
  pub last_step : (done rest : List Command) (one : Command) (dids : List Did) (after : State) (did : Did) →
      StepsTo lists setting (opening_state setting) done dids after → SessionStep lists setting after one did →
      ends_session did.answer ≡ true →
      Steps lists setting (done ++ one ∷ rest) (dids ++ did ∷ [])
  last_step done rest one dids after did steps step ends =
      steps-behind (opening_state setting) done dids after (one ∷ rest) (did ∷ []) steps (
        step,
        subst (λ (b : Bool). StepsFrom lists setting did.after (left_to_run b rest) []) (sym ends) tt,
      )

  -- ---- what stands behind them

  stands_behind : StepsStand → IsPartition setting.machine.stated → (state : State) (done : List Command)
      (dids : List Did) (after : State) (rest : List Command) → Standing setting state →
      All (λ other. InRange setting other) (done ++ rest) → StepsTo lists setting state done dids after →
      Standing setting after × All (λ other. InRange setting other) rest
  stands_behind stays partition state [] [] after rest stood within steps =
      (subst (Standing setting) (sym steps) stood, within)
  stands_behind stays partition state (one ∷ done) (did ∷ dids) after rest stood within steps =
      stands_behind stays partition did.after done dids after rest
      (stays lists setting state one did partition stood
      (All-head (λ other. InRange setting other) one (done ++ rest) within) steps.0)
      (All-tail (λ other. InRange setting other) one (done ++ rest) within) steps.2
  stands_behind stays partition state [] (did ∷ dids) after rest stood within steps = absurd steps
  stands_behind stays partition state (one ∷ done) [] after rest stood within steps = absurd steps

  -- ---- a session to its end

  module _ (holds : List ℕ → List ℕ) (done rest : List Command) (one : Command) (dids : List Did) (state : State)
      (did : Did) (steps : StepsTo lists setting (opening_state setting) done dids state)
      (step : SessionStep lists setting state one did) where
    end_or_more : (ends : Bool) → ends_session did.answer ≡ ends →
        (ends ≡ false → SomeSteps lists setting did.after rest holds) →
        GoesOn lists setting (done ++ one ∷ rest) dids did holds
    end_or_more true is behind = record {
      more = [];
      steps = last_step done rest one dids state did steps step is;
      held = held_nil holds;
      unread =
          ap is_unread (answer_of_end lists setting (opening_state setting) done dids state steps did is)
          ∙ end_unread did.answer;
    }
    end_or_more false is behind =
        let some = behind refl in
        record {
          more = some.dids;
          steps = steps-behind (opening_state setting) done dids state (one ∷ rest) (did ∷ some.dids) steps (
            step,
            subst (λ (b : Bool). StepsFrom lists setting did.after (left_to_run b rest) some.dids) (sym is) some.steps,
          );
          held = some.held;
          unread =
              ap (λ (all : List Did). is_unread (session_answer all)) (sym (append_assoc dids (did ∷ []) some.dids))
              ∙ unread_behind lists setting (opening_state setting) (done ++ one ∷ []) (dids ++ did ∷ []) did.after
              (one_more_step (opening_state setting) done dids state one did steps step is) some.dids
              ∙ some.all_read
              ∙ sym (goes_on_read did.answer is);
        }

pub begun_goes_on : SessionsExist → OpeningStands → StepsStand → BegunGoesOn
begun_goes_on exist opens stays lists setting done rest one dids state did holds runs partition within steps step =
    let stood = stands_behind lists setting stays partition (opening_state setting) done dids state (one ∷ rest)
    (opens setting) within steps in
    let next : Standing setting did.after =
    stays lists setting state one did partition stood.0
    (All-head (λ other. InRange setting other) one rest stood.1) step in
    end_or_more lists setting holds done rest one dids state did steps step (ends_session did.answer) refl
    (λ goes_on. exist lists setting did.after rest holds runs partition next
    (All-tail (λ other. InRange setting other) one rest stood.1))
