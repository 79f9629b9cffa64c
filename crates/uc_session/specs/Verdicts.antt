-- The verdict on an outcome, as a load answers it.
use Rattle.std.specs.Prelude.{◌≡◌, ℕ, Bool, Option}
use Rattle.std.specs.List.{find}
use Rattle.session_steps.specs.rendezvous_steps.Plan.{Plan, threads_from}
use Rattle.rendezvous_model.specs.Outcome.{Outcome}
use Rattle.rendezvous_model.specs.Verdict.{Verdict, LoadVerdict, halted_at, unfinished_at, refused_at}
use Rattle.session_steps.specs.session_text.declared.answers.CommandAnswer.{CommandAnswer}
use Rattle.session_steps.specs.session_text.declared.answers.CommandAnswer.TheVariants as command
use Rattle.session_steps.specs.session_text.declared.answers.LoadAnswer.{LoadAnswer}
use Rattle.session_steps.specs.session_text.declared.answers.LoadAnswer.TheVariants as load
use Rattle.session_steps.specs.Step.{answer_of}
use Rattle.uc_session.specs.declared.verdicts.Look.{Look}
use Rattle.uc_session.specs.declared.verdicts.Look.TheVariants.{Halted, Unfinished, Refused}

-- what a command answers whose load came to this
abbrev pub answered : LoadAnswer → CommandAnswer
answered load.Done = command.Done
answered answer = command.Load answer

-- the answer is the verdict that holds of the outcome
pub record IsVerdict (plan : Plan) (outcome : Outcome) (answer : LoadAnswer) : Type 0 where
  pub verdict : Verdict
  pub holds : LoadVerdict plan outcome verdict
  pub is_answer : answered answer ≡ answer_of verdict

-- what is looked for among the ends of threads
abbrev pub passes : Look → Plan → Outcome → ℕ → Bool
passes Halted plan outcome = halted_at outcome
passes Unfinished plan outcome = unfinished_at outcome
passes Refused plan outcome = refused_at plan outcome

-- the lowest thread from k on that passes a test
unfoldable pub lowest_from : Plan → (ℕ → Bool) → ℕ → Option ℕ
lowest_from plan test k = find test (threads_from plan k)
