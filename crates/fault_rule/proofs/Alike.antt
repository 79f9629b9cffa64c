-- Checks that fail just where others of the same causes do.
use Rattle.std.proofs.Common.{◌≡◌, inl, inr, sym, subst, ℕ, zero, suc, ◌+◌, List, [], ◌∷◌, ◌++◌, map}
use Rattle.std.specs.List.{range_with_len}
use Rattle.fault_rule.specs.Checks.{AllPass, IsFirst}

-- what is said of one thing is said of another that is the same
pub said_of_same : {A : Type 0} {a b : A} → a ≡ b → (P : A → Type 0) → (P a → P b) × (P b → P a)
said_of_same same P = (subst P same, subst P (sym same))

pub said_through : {P Q R : Type 0} → (P → Q) × (Q → P) → (Q → R) × (R → Q) → (P → R) × (R → P)
said_through first then = (λ p. then.0 (first.0 p), λ r. first.1 (then.1 r))

module _ {C : Type 0} (F G : C → Type 0) where
  abbrev pub AreAlike : List C → Type 0
  AreAlike [] = Unit {0}
  AreAlike (check ∷ checks) = ((F check → G check) × (G check → F check)) × AreAlike checks

  -- of such checks the same one fails first
  pub first_alike : (checks : List C) (cause : C) → AreAlike checks → IsFirst F checks cause → IsFirst G checks cause
  first_alike [] cause alike first = absurd first
  first_alike (check ∷ checks) cause alike (inl first) = inl (alike.0.0 first.0, first.1)
  first_alike (check ∷ checks) cause alike (inr first) = inr (λ fails. first.0 (alike.0.1 fails), first_alike checks cause alike.1 first.1)

  -- and where those pass, these do
  pub pass_alike : (checks : List C) → AreAlike checks → AllPass F checks → AllPass G checks
  pass_alike [] alike pass = tt
  pass_alike (check ∷ checks) alike pass = (λ fails. pass.0 (alike.0.1 fails), pass_alike checks alike.1 pass.1)

  pub alike_together : (front back : List C) → AreAlike front → AreAlike back → AreAlike (front ++ back)
  alike_together [] back alike behind = behind
  alike_together (check ∷ front) back alike behind = (alike.0, alike_together front back alike.1 behind)

  pub numbered_alike : (numbered : ℕ → C) (from count : ℕ) → ((i : ℕ) → F (numbered i) → G (numbered i)) → ((i : ℕ) → G (numbered i) → F (numbered i)) → AreAlike (map numbered (range_with_len from count))
  numbered_alike numbered from zero there back = tt
  numbered_alike numbered from (suc count) there back = ((there from, back from), numbered_alike numbered (from + 1) count there back)
