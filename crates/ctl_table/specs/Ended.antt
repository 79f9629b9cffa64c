-- What the words of a bay show at the end.
use Rattle.std.specs.Prelude.{Bool, []}
use Rattle.rendezvous_steps.specs.Plan.{Plan}
use Rattle.rendezvous_steps.specs.Events.{Running}
use Rattle.rendezvous_model.specs.Outcome.{Outcome, OutcomeShows}
use Rattle.rendezvous_model.specs.Safe.{Safe}
use Rattle.rendezvous_rule.specs.Shown.{shown_by}
use Rattle.rendezvous_rule.specs.Ran.{Unlisted}
use Rattle.rule_laws.specs.Kept.{Ruled}

-- a moment that meets the rule, whose state is safe and is what the outcome shows; all threads have finished in it
pub record ClosedShows (plan : Plan) (outcome : Outcome) (late : Bool) : Type 0 where
  pub moment : Running
  pub ruled : Ruled plan moment
  pub safe : Safe plan (shown_by plan moment)
  pub shows : OutcomeShows plan outcome (shown_by plan moment)
  pub unlisted : Unlisted plan [] outcome late
