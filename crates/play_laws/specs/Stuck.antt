-- A rendezvous never gets stuck: while a thread is unfinished, the step of some unfinished thread counts.
use Rattle.std.specs.Prelude.{◌≡◌, ◌≢◌, ℕ, ◌+◌, ◌*◌, ◌<◌, ◌≤◌, true, false, List, [], ◌∷◌}
use Rattle.rendezvous_steps.specs.declared.items.Event.TheVariants.{Step}
use Rattle.rendezvous_steps.specs.declared.ends.Beat.{Beat}
use Rattle.rendezvous_steps.specs.declared.ends.Beat.TheVariants.{Rounds}
use Rattle.rendezvous_steps.specs.declared.ends.End.TheVariants.{Unfinished}
use Rattle.rendezvous_steps.specs.Plan.{Plan, Sound}
use Rattle.rendezvous_steps.specs.Padded.{Padded}
use Rattle.rendezvous_steps.specs.Events.{Running, happens, opening_running}
use Rattle.rendezvous_model.specs.Round.{is_unfinished}
use Rattle.rendezvous_model.specs.Outcome.{Outcome, OutcomeShows}
use Rattle.rendezvous_model.specs.Verdict.{end_at}
use Rattle.rendezvous_rule.specs.Shown.{shown_by}
use Rattle.rendezvous_rule.specs.Ran.{events_of}
use Rattle.play_steps.specs.Play.{is_over, last_moment}
use Rattle.play_steps.specs.Rank.{is_counted}
use Rattle.rule_laws.specs.Kept.{Ruled}

-- an unfinished thread whose step is none that waits, idles or runs ordinary code
pub record SomeReady (plan : Plan) (moment : Running) : Type 0 where
  pub thread : ℕ
  pub in_range : thread < plan.threads
  pub unfinished : is_unfinished ((shown_by plan moment).place thread) ≡ true
  pub counts : is_counted (happens plan (Step thread) moment).1 ≡ true

abbrev pub NeverStuck : Type 0
NeverStuck =
    (plan : Plan) (moment : Running) →
    Sound plan → Padded plan → Ruled plan moment → is_over plan moment ≡ false → SomeReady plan moment

-- So enough rounds bring it to its end, whatever stands between them.

abbrev pub rounds_in : List Beat → ℕ
rounds_in [] = 0
rounds_in (Rounds n ∷ beats) = n + rounds_in beats
rounds_in (event ∷ beats) = rounds_in beats

abbrev pub IsEnough : Plan → List Beat → Type 0
IsEnough plan beats = 20 * plan.threads + 8 ≤ rounds_in beats

abbrev pub EnoughRounds : Type 0
EnoughRounds =
    (plan : Plan) (beats : List Beat) →
    Sound plan →
    Padded plan →
    IsEnough plan beats →
    is_over plan (last_moment plan (opening_running plan) (events_of plan beats)) ≡ true

-- in the outcome no thread is unfinished
abbrev pub EnoughRoundsFinish : Type 0
EnoughRoundsFinish =
    (plan : Plan) (beats : List Beat) (outcome : Outcome) →
    Sound plan →
    Padded plan →
    IsEnough plan beats →
    OutcomeShows plan outcome (shown_by plan (last_moment plan (opening_running plan) (events_of plan beats))) →
    (t : ℕ) → t < plan.threads → end_at outcome t ≢ Unfinished
