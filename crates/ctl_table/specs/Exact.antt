-- A plan and an outcome in tables of exact length.
use Rattle.std.specs.Prelude.{◌≤◌, false, length, None, slice_get, unwrap_or, vec_capacity}
use Rattle.rendezvous_steps.specs.declared.steps.Kind.TheVariants.{Absent}
use Rattle.rendezvous_steps.specs.Plan.{Plan}
use Rattle.rendezvous_model.specs.Outcome.{Outcome}
use Rattle.ctl_table.specs.declared.exact_plans.ExactPlan.{ExactPlan}
use Rattle.ctl_table.specs.declared.exact_outcomes.ExactOutcome.{ExactOutcome}

-- what plan it is
abbrev pub exact_plan_of : ExactPlan → Plan
exact_plan_of p =
    record {
      threads = p.threads;
      groups = length p.primary.entries.items;
      kind = λ t. unwrap_or (slice_get p.kind.entries.items t) Absent;
      group = λ t. unwrap_or (slice_get p.group.entries.items t) (length p.primary.entries.items);
      primary = λ g. unwrap_or (slice_get p.primary.entries.items g) p.threads;
      offer = λ g. unwrap_or (slice_get p.offer.entries.items g) None;
      refuse = λ g. unwrap_or (slice_get p.refuse.entries.items g) false;
      rev0 = λ g. unwrap_or (slice_get p.rev0.entries.items g) 0;
      patience = p.patience;
    }

-- what outcome it is
abbrev pub exact_outcome_of : ExactOutcome → Outcome
exact_outcome_of o = record { decide = o.decide; ends = o.ends.entries.items; revs = o.revs.entries.items }

-- it has room for the ends of the plan's threads and the revisions of its groups
pub record HasRoom (plan : Plan) (o : ExactOutcome) : Type 0 where
  pub ends : plan.threads ≤ vec_capacity o.ends.entries
  pub revs : plan.groups ≤ vec_capacity o.revs.entries
