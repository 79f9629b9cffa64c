-- What a bay came to, as callers see it.
use Rattle.std.specs.Prelude.{◌≡◌, Bool}
use Rattle.rendezvous_steps.specs.Plan.{Plan}
use Rattle.rendezvous_model.specs.Outcome.{Outcome}
use Rattle.ctl_table.specs.declared.closed.Closed.{Closed}
use Rattle.ctl_table.specs.Ended.{ClosedShows}
use Rattle.ctl_table.specs.Exact.{exact_plan_of, exact_outcome_of}

abbrev pub closed_plan : Closed → Plan
closed_plan closed = exact_plan_of closed.plan

abbrev pub closed_outcome : Closed → Outcome
closed_outcome closed = exact_outcome_of closed.outcome

abbrev pub was_late : Closed → Bool
was_late closed = closed.late

-- it is what a bay of this plan came to, closed with a post that was late or not
pub record Shows (plan : Plan) (late : Bool) (closed : Closed) : Type 0 where
  pub its_plan : closed_plan closed ≡ plan
  pub its_late : was_late closed ≡ late
  pub shows : ClosedShows plan (closed_outcome closed) late
