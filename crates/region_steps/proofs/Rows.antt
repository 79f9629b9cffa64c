-- Tests of numbers in a row, and searches among them.
use Rattle.std.proofs.Common.{◌≡◌, ℕ, zero, suc, ◌+◌, ◌<◌, ◌≤◌, Bool, true, false, Some, None, refl, sym, ap, ◌∙◌, subst, inl, inr, arith}
use Rattle.std.specs.List.{list_all, list_any, find, range_with_len}
use Rattle.std.proofs.lemmas.Bool.{false≢true, cases_eq, cases_Bool, and_parts}
use Rattle.std.proofs.lemmas.Bool.Decides.{nat_tests}

-- ---- all of them

pub all_pass : (test : ℕ → Bool) (first count : ℕ) → ((k : ℕ) → first ≤ k → k < first + count → test k ≡ true) → list_all test (range_with_len first count) ≡ true
all_pass test first zero each = refl
all_pass test first (suc count) each =
    rw (each first (omega arith) (omega arith), all_pass test (first + 1) count (λ k low high. each k (omega (arith, low)) (omega (arith, high)))) refl

pub each_passes : (test : ℕ → Bool) (first count k : ℕ) → list_all test (range_with_len first count) ≡ true → first ≤ k → k < first + count → test k ≡ true
each_passes test first zero k all low high = absurd (omega (arith, low, high))
each_passes test first (suc count) k all low high =
    let parts = and_parts (test first) (list_all test (range_with_len (first + 1) count)) all in
    elim (cases_eq first k) [
      | inl same ↦ subst (λ (n : ℕ). test n ≡ true) same parts.0
      | inr other ↦ each_passes test (first + 1) count k parts.1 (omega (arith, low, other)) (omega (arith, high))
    ]

pub not_all : (test : ℕ → Bool) (first count k : ℕ) → first ≤ k → k < first + count → test k ≡ false → list_all test (range_with_len first count) ≡ false
not_all test first count k low high fails =
    elim (cases_Bool (list_all test (range_with_len first count))) [
      | inl all ↦ absurd (false≢true (sym fails ∙ each_passes test first count k all low high))
      | inr not ↦ not
    ]

pub all_alike : (one other : ℕ → Bool) (first count : ℕ) → ((k : ℕ) → first ≤ k → k < first + count → one k ≡ other k) → list_all one (range_with_len first count) ≡ list_all other (range_with_len first count)
all_alike one other first zero each = refl
all_alike one other first (suc count) each =
    rw (each first (omega arith) (omega arith), all_alike one other (first + 1) count (λ k low high. each k (omega (arith, low)) (omega (arith, high)))) refl

-- ---- the first of them

pub found_none : (test : ℕ → Bool) (first count : ℕ) → ((k : ℕ) → first ≤ k → k < first + count → test k ≡ false) → find test (range_with_len first count) ≡ None
found_none test first zero none = refl
found_none test first (suc count) none =
    rw (none first (omega arith) (omega arith)) (found_none test (first + 1) count (λ k low high. none k (omega (arith, low)) (omega (arith, high))))

-- a number of the row that passes, as no lower one does
pub record IsFirst (test : ℕ → Bool) (first count k : ℕ) : Type 0 where
  pub low : first ≤ k
  pub high : k < first + count
  pub passes : test k ≡ true
  pub fails : (j : ℕ) → first ≤ j → j < k → test j ≡ false

pub found : (test : ℕ → Bool) (first count k : ℕ) → IsFirst test first count k → find test (range_with_len first count) ≡ Some k
found test first zero k is = absurd (omega (arith, is.low, is.high))
found test first (suc count) k is =
    elim (cases_eq first k) [
      | inl same ↦ let here : test first ≡ true = subst (λ (n : ℕ). test n ≡ true) (sym same) is.passes in rw here (ap (λ (n : ℕ). Some n) same)
      | inr other ↦
          rw (is.fails first (omega arith) (omega (arith, is.low, other)))
          (found test (first + 1) count k (record { low = omega (arith, is.low, other); high = omega (arith, is.high); passes = is.passes; fails = λ j low lt. is.fails j (omega (arith, low)) lt }))
    ]

pub first_found : (test : ℕ → Bool) (first count k : ℕ) → find test (range_with_len first count) ≡ Some k → IsFirst test first count k
first_found test first zero k e = absurd (cc)
first_found test first (suc count) k e =
    elim (cases_Bool (test first)) [
      | inl here ↦
          let same : first ≡ k = let e' : Some first ≡ Some k = rw here at e in (cc) in
          record { low = omega (arith, same); high = omega (arith, same); passes = subst (λ (n : ℕ). test n ≡ true) same here; fails = λ j low lt. absurd (omega (arith, same, low, lt)) }
      | inr not_here ↦
          let later = first_found test (first + 1) count k (rw not_here at e) in
          record {
            low = omega (arith, later.low);
            high = omega (arith, later.high);
            passes = later.passes;
            fails = λ j low lt. elim (cases_eq first j) [
              | inl same ↦ subst (λ (n : ℕ). test n ≡ false) same not_here
              | inr other ↦ later.fails j (omega (arith, low, other)) lt
            ];
          }
    ]

pub none_found : (test : ℕ → Bool) (first count k : ℕ) → find test (range_with_len first count) ≡ None → first ≤ k → k < first + count → test k ≡ false
none_found test first zero k e low high = absurd (omega (arith, low, high))
none_found test first (suc count) k e low high =
    elim (cases_Bool (test first)) [
      | inl here ↦ let e' : Some first ≡ None = rw here at e in absurd (cc)
      | inr not_here ↦ elim (cases_eq first k) [
        | inl same ↦ subst (λ (n : ℕ). test n ≡ false) same not_here
        | inr other ↦ none_found test (first + 1) count k (rw not_here at e) (omega (arith, low, other)) (omega (arith, high))
      ]
    ]

-- tests that agree on the row
pub found_alike : (one other : ℕ → Bool) (first count : ℕ) → ((k : ℕ) → first ≤ k → k < first + count → one k ≡ other k) → find one (range_with_len first count) ≡ find other (range_with_len first count)
found_alike one other first zero each = refl
found_alike one other first (suc count) each =
    rw (each first (omega arith) (omega arith), found_alike one other (first + 1) count (λ k low high. each k (omega (arith, low)) (omega (arith, high)))) refl

-- ---- some of them

pub any_passes : (test : ℕ → Bool) (first count k : ℕ) → first ≤ k → k < first + count → test k ≡ true → list_any test (range_with_len first count) ≡ true
any_passes test first zero k low high here = absurd (omega (arith, low, high))
any_passes test first (suc count) k low high here =
    elim (cases_eq first k) [
      | inl same ↦ let e : test first ≡ true = subst (λ (n : ℕ). test n ≡ true) (sym same) here in rw e refl
      | inr other ↦ let e = any_passes test (first + 1) count k (omega (arith, low, other)) (omega (arith, high)) here in rw e (grind (arith, nat_tests))
    ]

pub none_passes : (test : ℕ → Bool) (first count : ℕ) → ((k : ℕ) → first ≤ k → k < first + count → test k ≡ false) → list_any test (range_with_len first count) ≡ false
none_passes test first zero none = refl
none_passes test first (suc count) none =
    rw (none first (omega arith) (omega arith), none_passes test (first + 1) count (λ k low high. none k (omega (arith, low)) (omega (arith, high)))) refl

pub any_found : (test : ℕ → Bool) (first count : ℕ) → list_any test (range_with_len first count) ≡ true → (k : ℕ) × (test k ≡ true)
any_found test first zero some = absurd (false≢true some)
any_found test first (suc count) some =
    elim (cases_Bool (test first)) [
      | inl here ↦ (first, here)
      | inr not_here ↦ any_found test (first + 1) count (rw not_here at some)
    ]
