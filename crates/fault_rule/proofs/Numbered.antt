-- Checks of one kind, which a number tells apart, in the order of their numbers.
use Rattle.std.proofs.Common.{inl, inr, ℕ, zero, suc, ◌+◌, ◌<◌, ◌≤◌, map, ap, subst, arith}
use Rattle.std.specs.List.{range_with_len}
use Rattle.std.proofs.lemmas.Bool.{cases_eq}
use Rattle.fault_rule.specs.Checks.{AllPass, IsFirst}

module _ {C : Type 0} (Fails : C → Type 0) (numbered : ℕ → C) where
  -- where all pass, each does
  pub each_passes : (from count : ℕ) → AllPass Fails (map numbered (range_with_len from count)) → (i : ℕ) → from ≤ i → i < from + count → Fails (numbered i) → ⊥
  each_passes from zero pass i least most fails = omega arith
  each_passes from (suc count) pass i least most fails = elim (cases_eq i from) [
    | inl here ↦ pass.0 (subst (λ (k : ℕ). Fails (numbered k)) here fails)
    | inr there ↦ each_passes (from + 1) count pass.1 i (omega arith) (omega arith) fails
  ]

  -- where each passes, all do
  pub all_pass : (from count : ℕ) → ((i : ℕ) → from ≤ i → i < from + count → Fails (numbered i) → ⊥) → AllPass Fails (map numbered (range_with_len from count))
  all_pass from zero each = tt
  all_pass from (suc count) each = (
    each from (omega arith) (omega arith),
    all_pass (from + 1) count (λ i least most. each i (omega arith) (omega arith)),
  )

  -- one that fails is the first where those of lower numbers pass
  pub first_at : (from count i : ℕ) → from ≤ i → i < from + count → Fails (numbered i) → ((j : ℕ) → from ≤ j → j < i → Fails (numbered j) → ⊥) → IsFirst Fails (map numbered (range_with_len from count)) (numbered i)
  first_at from zero i least most fails before = absurd (omega arith)
  first_at from (suc count) i least most fails before = elim (cases_eq i from) [
    | inl here ↦ inl (subst (λ (k : ℕ). Fails (numbered k)) here fails, ap numbered here)
    | inr there ↦
        inr (
          before from (omega arith) (omega arith),
          first_at (from + 1) count i (omega arith) (omega arith) fails (λ j low high. before j (omega arith) high),
        )
  ]
