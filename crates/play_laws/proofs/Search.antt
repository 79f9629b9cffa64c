-- All numbers of a range pass a test, or one does not.
use Rattle.std.proofs.Common.{◌≡◌, ◌⊎◌, ℕ, zero, suc, ◌+◌, ◌<◌, ◌≤◌, Bool, true, false, not, refl, ap, ◌∙◌, arith, inl, inr}
use Rattle.std.specs.List.{range_with_len, list_any}
use Rattle.std.proofs.lemmas.Bool.{cases_Bool}
use Rattle.run_laws.proofs.Tables.{same_or_not}

-- one that fails
pub record Fails (p : ℕ → Bool) (a b : ℕ) : Type 0 where
  pub at : ℕ
  pub low : a ≤ at
  pub high : at < b
  pub fails : p at ≡ false

abbrev pub AllPass : (ℕ → Bool) → ℕ → ℕ → Type 0
AllPass p a b = (u : ℕ) → a ≤ u → u < b → p u ≡ true

all_by :
    (p : ℕ → Bool) (a n : ℕ) → (p a ≡ true) ⊎ (p a ≡ false) →
    AllPass p (a + 1) (a + suc n) ⊎ Fails p (a + 1) (a + suc n) → AllPass p a (a + suc n) ⊎ Fails p a (a + suc n)
all_by p a n (inr fails) rest = inr (record { at = a; low = omega arith; high = omega arith; fails = fails })
all_by p a n (inl passes) (inr found) =
    let low : a + 1 ≤ found.at = found.low in
    inr (record { at = found.at; low = omega arith; high = found.high; fails = found.fails })
all_by p a n (inl passes) (inl all) =
    inl (λ u low high.
    elim (same_or_not u a) [
      | inl e ↦ ap p e ∙ passes
      | inr other ↦ all u (omega arith) high
    ])

pub all_or_one : (p : ℕ → Bool) (a n : ℕ) → AllPass p a (a + n) ⊎ Fails p a (a + n)
all_or_one p a zero = inl (λ u low high. absurd (omega arith))
all_or_one p a (suc n) =
    let same : a + 1 + n ≡ a + suc n = omega arith in
    all_by p a n (cases_Bool (p a)) (rw same at (all_or_one p (a + 1) n))

-- where all pass, none fails
pub none_fails : (p : ℕ → Bool) (a n : ℕ) → AllPass p a (a + n) → list_any (λ u. not (p u)) (range_with_len a n) ≡ false
none_fails p a zero all = refl
none_fails p a (suc n) all =
    let here = all a (omega arith) (omega arith) in
    let rest = none_fails p (a + 1) n (λ u low high. all u (omega arith) (omega arith)) in
    rw (here, rest) refl
