-- How many threads a loop over threads still comes to: fewer by one with each that it comes to.
use Rattle.std.proofs.Common.{◌≡◌, ℕ, zero, suc, ◌+◌, ◌-◌, ◌≤◌, Bool, true, false, cond, Some, find, count_by, refl, sym, ◌∙◌, arith}
use Rattle.std.specs.List.{range_with_len}
use Rattle.std.proofs.lemmas.List.Sums.{sum_by-cons, count_by-le-length}
use Rattle.std.proofs.lemmas.List.FromFn.{length-range_with_len}
use Rattle.rendezvous_steps.specs.Plan.{Plan, is_offline, is_sibling, offline_from, sibling_from}
use Rattle.play_steps.specs.Rank.{offlines_left, siblings_left}

abbrev left_from : (ℕ → Bool) → ℕ → ℕ → ℕ
left_from p k n = count_by p (range_with_len k n)

left_step : (p : ℕ → Bool) (k n : ℕ) → left_from p k (suc n) ≡ cond (p k) 1 0 + left_from p (k + 1) n
left_step p k n = sum_by-cons (λ u. cond (p u) 1 0) k (range_with_len (k + 1) n)

found_by :
    (p : ℕ → Bool) (end k n m : ℕ) (passes : Bool) →
    p k ≡ passes →
    suc n ≡ end - k →
    (find p (range_with_len (k + 1) n) ≡ Some m → 1 + left_from p (m + 1) (end - (m + 1)) ≤ left_from p (k + 1) n) →
    find p (range_with_len k (suc n)) ≡ Some m → 1 + left_from p (m + 1) (end - (m + 1)) ≤ left_from p k (suc n)
found_by p end k n m true passes room later e =
    let first : Some k ≡ Some m = sym (rw passes refl) ∙ e in
    let at : k ≡ m = cc in
    let rest : n ≡ end - (k + 1) = omega arith in
    rw (← at, left_step p k n, passes, ← rest) (omega arith)
found_by p end k n m false passes room later e =
    let first : find p (range_with_len (k + 1) n) ≡ Some m = sym (rw passes refl) ∙ e in
    let rest = later first in
    rw (left_step p k n, passes) (omega arith)

found :
    (p : ℕ → Bool) (end k n m : ℕ) →
    n ≡ end - k →
    find p (range_with_len k n) ≡ Some m → 1 + left_from p (m + 1) (end - (m + 1)) ≤ left_from p k n
found p end k zero m room e = cc
found p end k (suc n) m room e =
    found_by p end k n m (p k) refl room (λ later. found p end (k + 1) n m (omega arith) later) e

pub offline_found :
    (plan : Plan) (k m : ℕ) → offline_from plan k ≡ Some m → 1 + offlines_left plan (m + 1) ≤ offlines_left plan k
unfolding offline_from offlines_left
offline_found plan k m e = found (λ u. is_offline (plan.kind u)) plan.threads k (plan.threads - k) m refl e

pub sibling_found :
    (plan : Plan) (t k m : ℕ) → sibling_from plan t k ≡ Some m →
    1 + siblings_left plan t (m + 1) ≤ siblings_left plan t k
unfolding sibling_from siblings_left
sibling_found plan t k m e = found (is_sibling plan t) plan.threads k (plan.threads - k) m refl e

-- there are no more than the plan has threads
pub offlines_few : (plan : Plan) (k : ℕ) → offlines_left plan k ≤ plan.threads
unfolding offlines_left
offlines_few plan k =
    let few = count_by-le-length (λ u. is_offline (plan.kind u)) (range_with_len k (plan.threads - k)) in
    let ends = length-range_with_len k (plan.threads - k) in
    omega arith

pub siblings_few : (plan : Plan) (t k : ℕ) → siblings_left plan t k ≤ plan.threads
unfolding siblings_left
siblings_few plan t k =
    let few = count_by-le-length (is_sibling plan t) (range_with_len k (plan.threads - k)) in
    let ends = length-range_with_len k (plan.threads - k) in
    omega arith
