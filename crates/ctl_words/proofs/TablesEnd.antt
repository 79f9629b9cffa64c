-- What a plan's tables are seen as past their ends.
use Rattle.std.proofs.Common.{◌≡◌, ℕ, ◌≤◌, None, Option, ap, ◌∙◌, arith}
use Rattle.std.proofs.lemmas.Option.{slice_get_past}
use Rattle.std.specs.Prelude.{unwrap_or}
use Rattle.rendezvous_steps.specs.declared.steps.Kind.{Kind}
use Rattle.rendezvous_steps.specs.declared.steps.Kind.TheVariants.{Absent}
use Rattle.rendezvous_steps.specs.Padded.{Padded}
use Rattle.ctl_words.specs.declared.plans.Plan.{Plan as Tables}
use Rattle.ctl_words.specs.Plans.{plan_of, IsSound}

absent_past : (plan : Tables) → IsSound plan → (t : ℕ) → plan.threads ≤ t → (plan_of plan).kind t ≡ Absent
absent_past plan sound t past =
    ap (λ (found : Option Kind). unwrap_or found Absent) (slice_get_past plan.kind.items t (omega (arith, sound.tables.kinds)))

pub padded : (plan : Tables) → IsSound plan → Padded (plan_of plan)
padded plan sound = record {
  no_thread = absent_past plan sound;
  no_offer = λ g past.
      ap (λ (found : Option (Option ℕ)). unwrap_or found None)
      (slice_get_past plan.offer.items g (omega (arith, sound.tables.offers)));
  no_primary = λ g past.
      ap (λ (found : Option ℕ). (plan_of plan).kind (unwrap_or found plan.threads)) (slice_get_past plan.primary.items g past)
      ∙ absent_past plan sound plan.threads (omega arith);
}
