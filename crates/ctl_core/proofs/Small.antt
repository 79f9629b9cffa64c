-- Revisions past the last group.
use Rattle.std.proofs.Common.{◌≡◌, ℕ, ◌<◌, ◌≤◌, ◌^◌, false, None, length, unwrap_or, inl, inr, ap, arith}
use Rattle.std.proofs.lemmas.Bool.{cases_lt}
use Rattle.std.proofs.lemmas.Option.{slice_get_past}
use Rattle.rendezvous_steps.specs.StepTable.{write_of}
use Rattle.ctl_words.specs.declared.plans.Plan.{Plan as Tables}
use Rattle.ctl_words.specs.Plans.{plan_of, IsSound}

none_past : (p : Tables) → IsSound p → (g : ℕ) → length p.primary.items ≤ g → (plan_of p).rev0 g ≡ 0
none_past p sound g above = ap (λ entry. unwrap_or entry 0) (slice_get_past p.rev0.items g (omega (arith, sound.tables.revisions)))

no_write_past : (p : Tables) → IsSound p → (g : ℕ) → length p.primary.items ≤ g → write_of (plan_of p) g ≡ 0
no_write_past p sound g above =
    let takes : (plan_of p).refuse g ≡ false = ap (λ entry. unwrap_or entry false) (slice_get_past p.refuse.items g (omega (arith, sound.tables.refusals))) in
    let offer : (plan_of p).offer g ≡ None = ap (λ entry. unwrap_or entry None) (slice_get_past p.offer.items g (omega (arith, sound.tables.offers))) in
    rw (takes, offer) (none_past p sound g above)

-- what holds of each group's first revision holds of all
pub firsts_small : (p : Tables) → IsSound p → ((g : ℕ) → g < length p.primary.items → (plan_of p).rev0 g < 2 ^ 32) → (g : ℕ) → (plan_of p).rev0 g < 2 ^ 32
firsts_small p sound here g =
    elim (cases_lt g (length p.primary.items)) [
      | inl below ↦ here g below
      | inr above ↦ omega (arith, none_past p sound g above)
    ]

pub writes_small : (p : Tables) → IsSound p → ((g : ℕ) → g < length p.primary.items → write_of (plan_of p) g < 2 ^ 32) → (g : ℕ) → write_of (plan_of p) g < 2 ^ 32
writes_small p sound here g =
    elim (cases_lt g (length p.primary.items)) [
      | inl below ↦ here g below
      | inr above ↦ omega (arith, no_write_past p sound g above)
    ]
