-- What a schedule comes to as a whole: what it lists, and what holds of every outcome.
use Rattle.std.specs.Prelude.{◌≡◌, ◌≢◌, ℕ, ◌<◌, Bool, true, false, List, [], flat_map}
use Rattle.rendezvous_steps.specs.declared.steps.Phase.TheVariants.{Halted}
use Rattle.rendezvous_steps.specs.declared.items.Item.{Item}
use Rattle.rendezvous_steps.specs.declared.ends.Beat.{Beat}
use Rattle.rendezvous_steps.specs.Plan.{Plan, Sound}
use Rattle.rendezvous_steps.specs.Padded.{Padded}
use Rattle.rendezvous_steps.specs.StepTable.{is_last}
use Rattle.rendezvous_steps.specs.Events.{Running, opening_running}
use Rattle.rendezvous_model.specs.Outcome.{Outcome, OutcomeShows}
use Rattle.rendezvous_rule.specs.Shown.{shown_by}
use Rattle.rendezvous_rule.specs.Ran.{Listed, Unlisted, events_of}
use Rattle.play_steps.specs.Play.{last_moment}
use Rattle.rule_laws.specs.Kept.{Ruled}
use Rattle.play_laws.specs.Runs.{items_of}

-- The lines of the items of a schedule, and the outcome that shows its last state, are a run that lists its items.
abbrev pub PlaysAreListed : Type 0
PlaysAreListed =
    (line : Item → List ℕ) (plan : Plan) (beats : List Beat) (text : List ℕ) (outcome : Outcome) →
    Sound plan →
    Padded plan →
    text ≡ flat_map line (items_of plan (events_of plan beats)) →
    OutcomeShows plan outcome (shown_by plan (last_moment plan (opening_running plan) (events_of plan beats))) →
    Listed line plan beats text outcome

-- Where each thread has come to its last phase, the outcome is one that a run may have. One that is not late has
-- decided to go on, and none has halted in it.
abbrev pub EndedLaw : Type 0
EndedLaw =
    (plan : Plan) (moment : Running) (outcome : Outcome) (late : Bool) →
    Sound plan →
    Padded plan →
    Ruled plan moment →
    ((u : ℕ) → u < plan.threads → is_last (moment.locals u).phase ≡ true) →
    (late ≡ false → outcome.decide < 2) →
    (late ≡ false → (u : ℕ) → (moment.locals u).phase ≢ Halted) →
    OutcomeShows plan outcome (shown_by plan moment) → Unlisted plan [] outcome late
