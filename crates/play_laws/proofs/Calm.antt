-- A step of the model keeps every latch with a thread that came into the handler.
use Rattle.std.proofs.Common.{◌≡◌, ℕ, true, false, refl, ap, sym, ◌∙◌, true≢false, inl, inr}
use Rattle.rendezvous_steps.specs.declared.items.What.{What}
use Rattle.rendezvous_steps.specs.declared.items.What.TheVariants as what
use Rattle.rendezvous_steps.specs.Plan.{Plan}
use Rattle.rendezvous_steps.specs.Events.{put}
use Rattle.rendezvous_model.specs.Round.{State, Cause, Place, In, Left, Halted, Withdrawn}
use Rattle.rendezvous_model.specs.RoundStep.{RoundBy}
use Rattle.rendezvous_rule.specs.Knows.{has_come}
use Rattle.run_laws.proofs.Tables.{put_same, put_other, same_or_not}
use Rattle.run_laws.proofs.Model.{change, changed}
use Rattle.play_laws.specs.Lawful.{Calm}

comes_in :
    (place : ℕ → Place) (t u : ℕ) (new : Place) →
    has_come new ≡ true → has_come (place u) ≡ true → has_come (put place t new u) ≡ true
comes_in place t u new now before =
    elim (same_or_not u t) [
      | inl e ↦ ap has_come (ap (put place t new) e ∙ put_same place t new) ∙ now
      | inr other ↦ ap has_come (put_other place t u new other) ∙ before
    ]

calm_by :
    (plan : Plan) (t : ℕ) (cause : Cause) (s : State) (item : What) (s' : State) →
    RoundBy plan t cause s item s' → Calm s → Calm (change plan t item s)
calm_by plan t cause s what.Enter s' by calm u on = comes_in s.place t u In refl (calm u on)
calm_by plan t cause s (what.Leave x) s' by calm u on = comes_in s.place t u (Left x) refl (calm u on)
calm_by plan t cause s what.Halt s' by calm u on = comes_in s.place t u Halted refl (calm u on)
calm_by plan t cause s (what.Withdraw k) s' by calm u on =
    elim (same_or_not u k) [
      | inl e ↦ absurd (true≢false (sym (calm u on) ∙ ap (λ v. has_come (s.place v)) e ∙ ap has_come by.1.is_out))
      | inr other ↦ ap has_come (put_other s.place k u Withdrawn other) ∙ calm u on
    ]
calm_by plan t cause s what.Ordinary s' by calm u on =
    elim (same_or_not u t) [
      | inl e ↦ absurd (true≢false (sym on ∙ ap (put s.latched t false) e ∙ put_same s.latched t false))
      | inr other ↦ calm u (sym (put_other s.latched t u false other) ∙ on)
    ]
calm_by plan t cause s what.Latched s' by calm u on =
    elim (same_or_not u t) [
      | inl e ↦ ap (λ v. has_come (s.place v)) e ∙ ap has_come by.is_in
      | inr other ↦ calm u (sym (put_other s.latched t u true other) ∙ on)
    ]
calm_by plan t cause s item s' by calm u on = calm u on

pub calm_kept :
    (plan : Plan) (t : ℕ) (cause : Cause) (s : State) (item : What) (s' : State) →
    RoundBy plan t cause s item s' → Calm s → Calm s'
calm_kept plan t cause s item s' by calm u on =
    let e = changed plan t cause s item s' by in
    ap (λ (x : State). has_come (x.place u)) e
    ∙ calm_by plan t cause s item s' by calm u (sym (ap (λ (x : State). x.latched u) e) ∙ on)
