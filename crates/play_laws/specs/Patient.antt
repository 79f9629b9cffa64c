-- A run in which no thread runs out of patience.
use Rattle.std.specs.Prelude.{◌≡◌, ℕ, Bool, true, false, List, Some, All}
use Rattle.rendezvous_steps.specs.declared.ends.Beat.{Beat}
use Rattle.rendezvous_steps.specs.declared.ends.Beat.TheVariants.{Timeout}
use Rattle.rendezvous_steps.specs.Plan.{Plan, Sound}
use Rattle.rendezvous_steps.specs.Padded.{Padded}
use Rattle.rendezvous_steps.specs.Events.{opening_running}
use Rattle.rendezvous_model.specs.Outcome.{Outcome, OutcomeShows}
use Rattle.rendezvous_model.specs.Verdict.{LoadVerdict, Done}
use Rattle.rendezvous_rule.specs.Shown.{shown_by}
use Rattle.rendezvous_rule.specs.Ran.{Unlisted, events_of}
use Rattle.play_steps.specs.Play.{last_moment}
use Rattle.play_laws.specs.Stuck.{IsEnough}

-- no group with an offer refuses its write
abbrev pub NoneRefuses : Plan → Type 0
NoneRefuses plan = (g offer : ℕ) → plan.offer g ≡ Some offer → plan.refuse g ≡ false

-- An outcome that is not late, where no group refuses, is Done.
abbrev pub InTimeIsDone : Type 0
InTimeIsDone =
    (plan : Plan) (text : List ℕ) (outcome : Outcome) →
    Sound plan → Unlisted plan text outcome false → NoneRefuses plan → LoadVerdict plan outcome Done

-- no timeout stands in a schedule
abbrev pub is_in_time : Beat → Bool
is_in_time (Timeout t) = false
is_in_time beat = true

-- A schedule without a timeout, with rounds enough, comes to Done where no group refuses.
abbrev pub PatientIsDone : Type 0
PatientIsDone =
    (plan : Plan) (beats : List Beat) (outcome : Outcome) →
    Sound plan →
    Padded plan →
    NoneRefuses plan →
    All (λ beat. is_in_time beat ≡ true) beats →
    IsEnough plan beats →
    OutcomeShows plan outcome (shown_by plan (last_moment plan (opening_running plan) (events_of plan beats))) →
    LoadVerdict plan outcome Done
