-- A search through the threads in ascending order, one thread at a time.
use Rattle.std.proofs.Common.{◌≡◌, ℕ, zero, suc, ◌+◌, ◌-◌, ◌<◌, ◌≤◌, ◌==◌, Bool, true, false, List, length, take, drop, get_or, slice_get, unwrap_or, Option, Some, None, min, inl, inr, refl, sym, ap, ◌∙◌, true≢false, arith, length-take-le, length-drop}
use Rattle.std.proofs.lemmas.Bool.{cases_lt}
use Rattle.std.proofs.lemmas.List.{get_or-take, get_or-drop}
use Rattle.std.proofs.lemmas.List.Folds.{list_any_at}
use Rattle.std.proofs.lemmas.Option.{unwrap_or-slice_get}
use Rattle.std.specs.List.{list_any}
use Rattle.std.specs.List.{find, range_with_len}
use Rattle.rendezvous_steps.specs.Plan.{Plan, is_offline, is_sibling, offline_from, sibling_from}

find_skip : (p : ℕ → Bool) (k n m : ℕ) → n ≡ suc m → p k ≡ false → find p (range_with_len k n) ≡ find p (range_with_len (k + 1) m)
find_skip p k n m e fails = rw (e, fails) refl

find_here : (p : ℕ → Bool) (k n m : ℕ) → n ≡ suc m → p k ≡ true → find p (range_with_len k n) ≡ Some k
find_here p k n m e passes = rw (e, passes) refl

find_end : (p : ℕ → Bool) (k n : ℕ) → n ≡ 0 → find p (range_with_len k n) ≡ None
find_end p k n e = rw e refl

pub offline_from-skip : (plan : Plan) (k : ℕ) → k < plan.threads → is_offline (plan.kind k) ≡ false → offline_from plan k ≡ offline_from plan (k + 1)
unfolding offline_from
offline_from-skip plan k below fails = find_skip _ k (plan.threads - k) (plan.threads - (k + 1)) (omega arith) fails

pub offline_from-here : (plan : Plan) (k : ℕ) → k < plan.threads → is_offline (plan.kind k) ≡ true → offline_from plan k ≡ Some k
unfolding offline_from
offline_from-here plan k below passes = find_here _ k (plan.threads - k) (plan.threads - (k + 1)) (omega arith) passes

pub offline_from-end : (plan : Plan) (k : ℕ) → plan.threads ≤ k → offline_from plan k ≡ None
unfolding offline_from
offline_from-end plan k past = find_end _ k (plan.threads - k) (omega arith)

pub sibling_from-skip : (plan : Plan) (t k : ℕ) → k < plan.threads → is_sibling plan t k ≡ false → sibling_from plan t k ≡ sibling_from plan t (k + 1)
unfolding sibling_from
sibling_from-skip plan t k below fails = find_skip _ k (plan.threads - k) (plan.threads - (k + 1)) (omega arith) fails

pub sibling_from-here : (plan : Plan) (t k : ℕ) → k < plan.threads → is_sibling plan t k ≡ true → sibling_from plan t k ≡ Some k
unfolding sibling_from
sibling_from-here plan t k below passes = find_here _ k (plan.threads - k) (plan.threads - (k + 1)) (omega arith) passes

pub sibling_from-end : (plan : Plan) (t k : ℕ) → plan.threads ≤ k → sibling_from plan t k ≡ None
unfolding sibling_from
sibling_from-end plan t k past = find_end _ k (plan.threads - k) (omega arith)

-- threads that are none of t's siblings are passed over
sibling_from-past : (plan : Plan) (t k : ℕ) → is_sibling plan t k ≡ false → sibling_from plan t k ≡ sibling_from plan t (k + 1)
sibling_from-past plan t k fails =
    elim (cases_lt k plan.threads) [
      | inl below ↦ sibling_from-skip plan t k below fails
      | inr above ↦ sibling_from-end plan t k above ∙ sym (sibling_from-end plan t (k + 1) (omega arith))
    ]

pub sibling_from-skips : (plan : Plan) (t k n : ℕ) → ((u : ℕ) → k ≤ u → u < k + n → is_sibling plan t u ≡ false) → sibling_from plan t k ≡ sibling_from plan t (k + n)
sibling_from-skips plan t k zero none =
    let here : k ≡ k + 0 = omega arith in
    ap (λ m. sibling_from plan t m) here
sibling_from-skips plan t k (suc n) none =
    let next : k + 1 + n ≡ k + suc n = omega arith in
    sibling_from-past plan t k (none k (omega arith) (omega arith))
    ∙ (sibling_from-skips plan t (k + 1) n (λ u low high. none u (omega arith) (omega arith))
    ∙ ap (λ m. sibling_from plan t m) next)

-- and so are those of other groups
pub other_groups-skip : (plan : Plan) (t k : ℕ) → ((u : ℕ) → k ≤ u → u < k + 16 → (plan.group u == plan.group t) ≡ false) → sibling_from plan t k ≡ sibling_from plan t (k + 16)
other_groups-skip plan t k none = sibling_from-skips plan t k 16 (λ u low high. rw (none u low high) refl)

-- threads up to one, or to the last, have been gone through
pub among-end : (plan : Plan) (t k m n : ℕ) → m ≡ min plan.threads n → sibling_from plan t m ≡ sibling_from plan t k → sibling_from plan t k ≡ sibling_from plan t n
among-end plan t k m n end so_far =
    elim (cases_lt n plan.threads) [
      | inl below ↦ sym so_far ∙ ap {B = Option ℕ} (λ j. sibling_from plan t j) (omega arith)
      | inr above ↦ sym so_far ∙ (sibling_from-end plan t m (omega arith) ∙ sym (sibling_from-end plan t n above))
    ]

-- what is none of a part of a table is at none of its places
held_at : (table : List ℕ) (from end g d k : ℕ) → from ≤ k → k < end → get_or (take (end - from) (drop from table)) (k - from) d ≡ unwrap_or (slice_get table k) d
held_at table from end g d k low high =
    let i : from + (k - from) ≡ k = omega arith in
    get_or-take (end - from) (drop from table) (k - from) d (omega arith)
    ∙ (get_or-drop from table (k - from) d ∙ (ap (λ n. get_or table n d) i ∙ sym (unwrap_or-slice_get table k d)))

pub none_held : (table : List ℕ) (from end g d : ℕ) → list_any (λ x. x == g) (take (end - from) (drop from table)) ≡ false → end ≤ length table → (k : ℕ) → from ≤ k → k < end → (unwrap_or (slice_get table k) d == g) ≡ false
none_held table from end g d none within k low high = by_test (unwrap_or (slice_get table k) d == g) refl
  where
    by_test : (b : Bool) → (unwrap_or (slice_get table k) d == g) ≡ b → (unwrap_or (slice_get table k) d == g) ≡ false
    by_test false e = e
    by_test true e =
        let room : k - from < length (take (end - from) (drop from table)) = omega (arith, length-take-le (end - from) (drop from table) (omega (arith, length-drop from table))) in
        absurd (true≢false (sym (list_any_at (λ x. x == g) (take (end - from) (drop from table)) (k - from) d room (ap (λ x. x == g) (held_at table from end g d k low high) ∙ e)) ∙ none))

pub ruleset offline_search = (offline_from-skip, offline_from-here, offline_from-end)

pub ruleset sibling_search = (sibling_from-skip, sibling_from-here, sibling_from-end)
