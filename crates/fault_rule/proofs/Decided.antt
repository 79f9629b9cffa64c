-- Facts that are decided, and those made of them.
use Rattle.std.proofs.Common.{◌≢◌, ◌⊎◌, inl, inr, ⊎_elim, ℕ, ◌<◌, ◌≤◌, arith}
use Rattle.std.proofs.lemmas.Bool.{cases_lt, cases_eq}

-- a fact holds or does not
abbrev pub Decided : Type 0 → Type 0
Decided P = P ⊎ (P → ⊥)

-- two numbers differ or do not
pub decided_not_equal : (a b : ℕ) → Decided (a ≢ b)
decided_not_equal a b = elim (cases_eq a b) [ inl same ↦ inr (λ other. other same) | inr other ↦ inl other ]

-- one number is below another or is not
pub decided_lt : (a b : ℕ) → Decided (a < b)
decided_lt a b = elim (cases_lt a b) [ inl less ↦ inl less | inr more ↦ inr (λ less. omega arith) ]

-- one number is at most another or is not
pub decided_le : (a b : ℕ) → Decided (a ≤ b)
decided_le a b = elim (cases_lt b a) [ inl more ↦ inr (λ less. omega arith) | inr less ↦ inl less ]

-- one of two facts holds, or none
pub either : {P Q : Type 0} → Decided P → Decided Q → Decided (P ⊎ Q)
either (inl p) q = inl (inl p)
either (inr not) (inl q) = inl (inr q)
either (inr not) (inr none) = inr (⊎_elim not none)

-- both hold, or one does not
pub both : {P Q : Type 0} → Decided P → Decided Q → Decided (P × Q)
both (inl p) (inl q) = inl (p, q)
both (inl p) (inr not) = inr (λ (a, b). not b)
both (inr not) q = inr (λ (a, b). not a)

-- all three hold, or one does not
pub three : {P Q R : Type 0} → Decided P → Decided Q → Decided R → Decided (P × Q × R)
three (inl p) (inl q) (inl r) = inl (p, q, r)
three (inl p) (inl q) (inr not) = inr (λ (a, b, c). not c)
three (inl p) (inr not) r = inr (λ (a, b, c). not b)
three (inr not) q r = inr (λ (a, b, c). not a)

-- a fact that holds just where another does is decided as that one is
pub decided_by : {P Q : Type 0} → (P → Q) → (Q → P) → Decided P → Decided Q
decided_by there back (inl holds) = inl (there holds)
decided_by there back (inr not) = inr (λ holds. not (back holds))
