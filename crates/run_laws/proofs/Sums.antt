-- Sums and counts over the numbers of a range.
use Rattle.std.proofs.Common.{◌≡◌, ℕ, zero, suc, ◌+◌, ◌*◌, ◌<◌, ◌≤◌, Bool, true, cond, count_by, sum_by, refl, ap, sym, ◌∙◌, arith, inl, inr}
use Rattle.std.specs.List.{range_with_len}
use Rattle.std.proofs.lemmas.Bool.{cases_Bool}
use Rattle.std.proofs.lemmas.List.Sums.{sum_by-cons}
use Rattle.run_laws.proofs.Tables.{same_or_not}

abbrev pub sum_over : (ℕ → ℕ) → ℕ → ℕ → ℕ
sum_over f a n = sum_by f (range_with_len a n)

pub sum_step : (f : ℕ → ℕ) (a n : ℕ) → sum_over f a (suc n) ≡ f a + sum_over f (a + 1) n
sum_step f a n = sum_by-cons f a (range_with_len (a + 1) n)

-- terms that do not grow have a sum that does not
pub sum_le : (f g : ℕ → ℕ) (a n : ℕ) → ((u : ℕ) → f u ≤ g u) → sum_over f a n ≤ sum_over g a n
sum_le f g a zero below = omega arith
sum_le f g a (suc n) below =
    let here = below a in
    let rest = sum_le f g (a + 1) n below in
    rw (sum_step f a n, sum_step g a n) (omega arith)

-- a term that falls by w lets the sum fall by w
pub sum_falls :
    (f g : ℕ → ℕ) (w t a n : ℕ) →
    a ≤ t → t < a + n → w + f t ≤ g t → ((u : ℕ) → f u ≤ g u) → w + sum_over f a n ≤ sum_over g a n
sum_falls f g w t a zero low high falls below = absurd (omega arith)
sum_falls f g w t a (suc n) low high falls below =
    elim (same_or_not t a) [
      | inl e ↦
          let here : w + f a ≤ g a = rw (← e) falls in
          let rest = sum_le f g (a + 1) n below in
          rw (sum_step f a n, sum_step g a n) (omega arith)
      | inr other ↦
          let here = below a in
          let rest = sum_falls f g w t (a + 1) n (omega arith) (omega arith) falls below in
          rw (sum_step f a n, sum_step g a n) (omega arith)
    ]

-- terms of at most m, but for one that may have w more
pub sum_at_most : (f g : ℕ → ℕ) (m a n : ℕ) → ((u : ℕ) → f u ≤ m + g u) → sum_over f a n ≤ m * n + sum_over g a n
sum_at_most f g m a zero below = omega arith
sum_at_most f g m a (suc n) below =
    let here = below a in
    let rest = sum_at_most f g m (a + 1) n below in
    rw (sum_step f a n, sum_step g a n) (omega arith)

pub sum_none : (a n : ℕ) → sum_over (λ u. 0) a n ≡ 0
sum_none a zero = refl
sum_none a (suc n) = let first = sum_step (λ u. 0) a n in let rest = sum_none (a + 1) n in omega arith

pub sum_plus : (f g : ℕ → ℕ) (a n : ℕ) → sum_over (λ u. f u + g u) a n ≡ sum_over f a n + sum_over g a n
sum_plus f g a zero = refl
sum_plus f g a (suc n) =
    let rest = sum_plus f g (a + 1) n in
    rw (sum_step (λ u. f u + g u) a n, sum_step f a n, sum_step g a n) (omega arith)

-- two sums change places
pub sum_swap :
    (f : ℕ → ℕ → ℕ) (a n b m : ℕ) →
    sum_over (λ u. sum_over (f u) b m) a n ≡ sum_over (λ v. sum_over (λ u. f u v) a n) b m
sum_swap f a zero b m = sym (sum_none b m)
sum_swap f a (suc n) b m =
    sum_step (λ u. sum_over (f u) b m) a n
    ∙ (ap (λ k. sum_over (f a) b m + k) (sum_swap f (a + 1) n b m)
    ∙ (sym (sum_plus (f a) (λ v. sum_over (λ u. f u v) (a + 1) n) b m)
    ∙ sums_same (λ v. f a v + sum_over (λ u. f u v) (a + 1) n) (λ v. sum_over (λ u. f u v) a (suc n)) b m
    (λ v. sym (sum_step (λ u. f u v) a n))))
  where
    sums_same : (f g : ℕ → ℕ) (a n : ℕ) → ((u : ℕ) → f u ≡ g u) → sum_over f a n ≡ sum_over g a n
    sums_same f g a zero same = refl
    sums_same f g a (suc n) same =
        let here = same a in
        let rest = sums_same f g (a + 1) n same in
        rw (sum_step f a n, sum_step g a n) (omega arith)

none_from : (p : ℕ → Bool) (c a n : ℕ) → c < a → ((u : ℕ) → p u ≡ true → u ≡ c) → count_by p (range_with_len a n) ≡ 0
none_from p c a zero above one = refl
none_from p c a (suc n) above one =
    elim (cases_Bool (p a)) [
      | inl passes ↦ let e = one a passes in absurd (omega arith)
      | inr fails ↦
          let rest = none_from p c (a + 1) n (omega arith) one in
          let here = sum_step (λ u. cond (p u) 1 0) a n
          ∙ ap (λ b. cond b 1 0 + count_by p (range_with_len (a + 1) n)) fails in
          omega arith
    ]

-- a test that one number alone can pass counts at most one
pub one_at_most : (p : ℕ → Bool) (c a n : ℕ) → ((u : ℕ) → p u ≡ true → u ≡ c) → count_by p (range_with_len a n) ≤ 1
one_at_most p c a zero one = omega arith
one_at_most p c a (suc n) one =
    elim (cases_Bool (p a)) [
      | inl passes ↦
          let e = one a passes in
          let rest = none_from p c (a + 1) n (omega arith) one in
          let here = sum_step (λ u. cond (p u) 1 0) a n
          ∙ ap (λ b. cond b 1 0 + count_by p (range_with_len (a + 1) n)) passes in
          omega arith
      | inr fails ↦
          let rest = one_at_most p c (a + 1) n one in
          let here = sum_step (λ u. cond (p u) 1 0) a n
          ∙ ap (λ b. cond b 1 0 + count_by p (range_with_len (a + 1) n)) fails in
          omega arith
    ]
