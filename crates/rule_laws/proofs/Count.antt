-- Counts of numbers of a range that pass a test.
use Rattle.std.proofs.Common.{◌≡◌, ◌≢◌, ℕ, zero, suc, ◌+◌, ◌<◌, ◌≤◌, Bool, true, false, cond, not, ◌&&◌, count_by, refl, ap, sym, ◌∙◌, arith, true≢false, eq-zero-or-pos, ◌⊎◌, inl, inr}
use mathlib.Core.Path.{fun_ext}
use Rattle.std.specs.List.{range_with_len}
use Rattle.std.proofs.lemmas.List.Sums.{sum_by-cons}
use Rattle.std.proofs.lemmas.Bool.Decides.{eqb_tells}

abbrev pub count : (ℕ → Bool) → ℕ → ℕ → ℕ
count p a n = count_by p (range_with_len a n)

pub count_step : (p : ℕ → Bool) (a n : ℕ) → count p a (suc n) ≡ cond (p a) 1 0 + count p (a + 1) n
count_step p a n = sum_by-cons (λ x. cond (p x) 1 0) a (range_with_len (a + 1) n)

pub same_or_not : (x y : ℕ) → (x ≡ y) ⊎ (x ≢ y)
same_or_not x y = elim (eqb_tells x y) [ inl e ↦ inl e.1 | inr e ↦ inr e.1 ]

counts_none : (b : Bool) (n : ℕ) → cond b 1 0 + n ≡ 0 → b ≡ false
counts_none true n e = absurd (omega arith)
counts_none false n e = refl

both : (b c : Bool) → b ≡ true → (b && not c) ≡ false → c ≡ true
both true true passes fails = refl
both true false passes fails = sym fails
both false c passes fails = absurd (true≢false (sym passes))

split_cond : (b c : Bool) → cond (b && c) 1 0 + cond (b && not c) 1 0 ≡ cond b 1 0
split_cond true true = refl
split_cond true false = refl
split_cond false true = refl
split_cond false false = refl

-- those that pass a test are those that pass another too, and those that do not
pub count_split :
    (p q : ℕ → Bool) (a n : ℕ) → count (λ u. p u && q u) a n + count (λ u. p u && not (q u)) a n ≡ count p a n
count_split p q a zero = refl
count_split p q a (suc n) =
    let rest = count_split p q (a + 1) n in
    let here = split_cond (p a) (q a) in
    rw (count_step (λ u. p u && q u) a n, count_step (λ u. p u && not (q u)) a n, count_step p a n) (omega arith)

-- two tests that agree count the same
pub count_same : (p q : ℕ → Bool) (a n : ℕ) → ((u : ℕ) → p u ≡ q u) → count p a n ≡ count q a n
count_same p q a n same = ap (λ r. count r a n) (fun_ext same)

-- two tests that agree from a on count the same there
pub count_same_from : (p q : ℕ → Bool) (a n : ℕ) → ((u : ℕ) → a ≤ u → p u ≡ q u) → count p a n ≡ count q a n
count_same_from p q a zero same = refl
count_same_from p q a (suc n) same =
    let here = same a (omega arith) in
    let rest = count_same_from p q (a + 1) n (λ u h. same u (omega arith)) in
    count_step p a n ∙ (rw (here, rest) refl) ∙ sym (count_step q a n)

-- a test that passes one number more counts one more
pub count_less :
    (p q : ℕ → Bool) (a n t : ℕ) → a ≤ t → t < a + n →
    p t ≡ true → q t ≡ false → ((u : ℕ) → u ≢ t → p u ≡ q u) → count p a n ≡ count q a n + 1
count_less p q a zero t low high passes fails same = absurd (omega arith)
count_less p q a (suc n) t low high passes fails same =
    elim (same_or_not a t) [
      | inl e ↦
          let rest = count_same_from p q (a + 1) n (λ u h. same u (omega arith)) in
          let passes' : p a ≡ true = rw e passes in
          let fails' : q a ≡ false = rw e fails in
          rw (count_step p a n, count_step q a n, passes', fails', rest) (omega arith)
      | inr ne ↦
          let rest = count_less p q (a + 1) n t (omega arith) (omega arith) passes fails same in
          let here = same a ne in
          rw (count_step p a n, count_step q a n, here, rest) (omega arith)
    ]

-- a test that none passes counts none
pub count_zero : (p : ℕ → Bool) (a n : ℕ) → ((u : ℕ) → p u ≡ false) → count p a n ≡ 0
count_zero p a zero fails = refl
count_zero p a (suc n) fails =
    let here = fails a in let rest = count_zero p (a + 1) n fails in rw (count_step p a n, here, rest) refl

-- none is counted, so none passes
pub count_none : (p : ℕ → Bool) (a n t : ℕ) → count p a n ≡ 0 → a ≤ t → t < a + n → p t ≡ false
count_none p a zero t none low high = absurd (omega arith)
count_none p a (suc n) t none low high =
    let here : cond (p a) 1 0 + count p (a + 1) n ≡ 0 = sym (count_step p a n) ∙ none in
    let first : p a ≡ false = counts_none (p a) (count p (a + 1) n) here in
    elim (same_or_not a t) [
      | inl e ↦ rw (← e) first
      | inr ne ↦ count_none p (a + 1) n t (omega arith) (omega arith) (omega arith)
    ]

-- all that pass one test pass another, where as many are counted that pass both
pub count_all :
    (p q : ℕ → Bool) (a n t : ℕ) →
    count (λ u. p u && q u) a n ≡ count p a n → a ≤ t → t < a + n → p t ≡ true → q t ≡ true
count_all p q a n t full low high passes =
    let none : count (λ u. p u && not (q u)) a n ≡ 0 = let e = count_split p q a n in omega arith in
    let here = count_none (λ u. p u && not (q u)) a n t none low high in
    both (p t) (q t) passes here

-- one that passes is counted
pub count_some : (p : ℕ → Bool) (a n t : ℕ) → a ≤ t → t < a + n → p t ≡ true → 0 < count p a n
count_some p a n t low high passes =
    elim (eq-zero-or-pos (count p a n)) [
      | inl none ↦ absurd (true≢false (sym passes ∙ count_none p a n t none low high))
      | inr some ↦ some
    ]
