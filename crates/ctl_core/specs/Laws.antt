-- Laws of runs that list their items.
use Rattle.std.specs.Prelude.{◌≡◌, ◌≢◌, ℕ, ◌+◌, ◌*◌, ◌<◌, ◌≤◌, List}
use Rattle.std.specs.List.{flat_map}
use Rattle.rendezvous_steps.specs.declared.items.Item.{Item}
use Rattle.rendezvous_steps.specs.declared.ends.Beat.{Beat}
use Rattle.rendezvous_steps.specs.Plan.{Plan, Sound}
use Rattle.rendezvous_steps.specs.Padded.{Padded}
use Rattle.rendezvous_steps.specs.declared.ends.End.TheVariants.{Unfinished}
use Rattle.rendezvous_steps.specs.Events.{opening_running}
use Rattle.rendezvous_model.specs.Outcome.{Outcome, OutcomeShows}
use Rattle.rendezvous_rule.specs.Ran.{events_of, Listed}
use Rattle.rendezvous_rule.specs.Shown.{shown_by}
use Rattle.rendezvous_model.specs.Verdict.{end_at}
use Rattle.play_steps.specs.Play.{play, last_moment}
use Rattle.play_laws.specs.Stuck.{rounds_in}

-- the text is the lines of the items of the schedule, and the outcome is that of its last moment
pub record IsPlayed
    (line : Item → List ℕ) (plan : Plan) (beats : List Beat) (text : List ℕ) (outcome : Outcome) : Type 0 where
  pub text_is : text ≡ flat_map line (play plan (opening_running plan) (events_of plan beats))
  pub comes_out :
      OutcomeShows plan outcome (shown_by plan (last_moment plan (opening_running plan) (events_of plan beats)))

-- a plan and beats have one run that lists its items
abbrev pub ListedIsPlayed : Type 0
ListedIsPlayed =
    (line : Item → List ℕ) (plan : Plan) (beats : List Beat) (text : List ℕ) (outcome : Outcome) →
    Listed line plan beats text outcome → IsPlayed line plan beats text outcome

-- with 20 rounds for each thread, and 8, no thread's end is Unfinished
abbrev pub EnoughRoundsFinish : Type 0
EnoughRoundsFinish =
    (line : Item → List ℕ) (plan : Plan) (beats : List Beat) (text : List ℕ) (outcome : Outcome) →
    Sound plan → Padded plan → Listed line plan beats text outcome →
    20 * plan.threads + 8 ≤ rounds_in beats →
    (t : ℕ) → t < plan.threads → end_at outcome t ≢ Unfinished
