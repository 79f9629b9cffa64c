-- What a plan's tables hold past their end. With these values a rule over every thread and every group needs no premise
-- that a number is in range.
use Rattle.std.specs.Prelude.{◌≡◌, ℕ, ◌≤◌, None}
use Rattle.rendezvous_steps.specs.declared.steps.Kind.TheVariants.{Absent}
use Rattle.rendezvous_steps.specs.Plan.{Plan}

pub record Padded (plan : Plan) : Type 0 where
  pub no_thread : (t : ℕ) → plan.threads ≤ t → plan.kind t ≡ Absent
  pub no_offer : (g : ℕ) → plan.groups ≤ g → plan.offer g ≡ None
  pub no_primary : (g : ℕ) → plan.groups ≤ g → plan.kind (plan.primary g) ≡ Absent
