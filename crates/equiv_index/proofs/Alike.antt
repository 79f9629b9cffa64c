-- Lists with the same elements, each as often.
use Rattle.std.proofs.Common.{◌≡◌, inl, inr, ℕ, suc, ◌+◌, ◌<◌, ◌≤◌, Bool, true, false, List, [], ◌∷◌, refl, sym, ◌∙◌, ap, arith, eq-eqb}
use Rattle.std.specs.Prelude.{All, sum_by, filter, ◌==◌, if◌then◌else◌}
use Rattle.std.specs.List.Sorted.{IsNonDecreasingBy, IsPermutation}
use Rattle.std.proofs.lemmas.Bool.Decides.{eqb_tells}
use Rattle.std.proofs.lemmas.List.Sums.{sum_by-cons}
use Rattle.std.proofs.lemmas.List.Elements.{All-head, All-tail}
use Rattle.std.proofs.lemmas.List.Sorted.{sum_by-IsPermutation}

-- whatever is counted, there is as much of it in both
abbrev pub Alike : {X : Type 0} → List X → List X → Type 0
Alike {X} xs ys = (f : X → ℕ) → sum_by f ys ≡ sum_by f xs

pub alike_moved : {X : Type 0} (xs ys : List X) → IsPermutation xs ys → Alike xs ys
alike_moved xs ys moved = λ f. sum_by-IsPermutation f xs ys moved

-- what passes a test counts as before, and the rest as nothing
sum_passing : {X : Type 0} (p : X → Bool) (f : X → ℕ) (xs : List X) → sum_by f (filter p xs) ≡ sum_by (λ x. if p x then f x else 0) xs
sum_passing p f [] = refl
sum_passing p f (x ∷ xs) =
    let rest = sum_passing p f xs in
    let here : sum_by f (if p x then x ∷ filter p xs else filter p xs) ≡ (if p x then f x else 0) + sum_by (λ y. if p y then f y else 0) xs =
    elim (p x) as (λ b. sum_by f (if b then x ∷ filter p xs else filter p xs) ≡ (if b then f x else 0) + sum_by (λ y. if p y then f y else 0) xs)
    [ true ↦ omega (arith, rest, sum_by-cons f x (filter p xs)) | false ↦ omega (arith, rest) ] in
    here ∙ sym (sum_by-cons (λ y. if p y then f y else 0) x xs)

pub alike_filter : {X : Type 0} (p : X → Bool) (xs ys : List X) → Alike xs ys → Alike (filter p xs) (filter p ys)
alike_filter p xs ys alike = λ f. sum_passing p f ys ∙ alike (λ x. if p x then f x else 0) ∙ sym (sum_passing p f xs)

alike_rest : {X : Type 0} (x : X) (xs ys : List X) → Alike (x ∷ xs) (x ∷ ys) → Alike xs ys
alike_rest x xs ys alike = λ f. omega (arith, alike f, sum_by-cons f x xs, sum_by-cons f x ys)

module _ {X : Type 0} (m : X → ℕ) where
  -- how many items have a number
  abbrev pub counts : ℕ → X → ℕ
  counts k x = if m x == k then 1 else 0

  pub counts_own : (k : ℕ) (x : X) → m x ≡ k → counts k x ≡ 1
  counts_own k x is = rw (eq-eqb (m x) k is) refl

  pub counts_other : (k : ℕ) (x : X) → (m x == k) ≡ false → counts k x ≡ 0
  counts_other k x other = rw other refl

  -- where items rise and one has a number, the first is no higher
  first_is_least : (k : ℕ) (x : X) (xs : List X) → IsNonDecreasingBy m (x ∷ xs) → 0 < sum_by (counts k) (x ∷ xs) → m x ≤ k
  first_is_least k x [] up some = elim (eqb_tells (m x) k) [
    | inl same ↦ omega (arith, same.1)
    | inr other ↦ absurd (omega (arith, some, sum_by-cons (counts k) x [], counts_other k x other.0))
  ]
  first_is_least k x (y ∷ ys) up some = elim (eqb_tells (m x) k) [
    | inl same ↦ omega (arith, same.1)
    | inr other ↦
        let next : m x ≤ m y = up 0 (suc 0) y (omega arith) (omega arith) in
        let later : 0 < sum_by (counts k) (y ∷ ys) = omega (arith, some, sum_by-cons (counts k) x (y ∷ ys), counts_other k x other.0) in
        omega (arith, next, first_is_least k y ys (λ i j d le within. up (suc i) (suc j) d (omega arith) (omega arith)) later)
  ]

  module _ (of : ℕ → X) where
    -- a number tells its item
    abbrev pub IsTold : X → Type 0
    IsTold x = x ≡ of (m x)

    -- lists that both rise by such numbers and have the same items are one list
    pub one_order : (xs ys : List X) → IsNonDecreasingBy m xs → IsNonDecreasingBy m ys → All IsTold xs → All IsTold ys → Alike xs ys → ys ≡ xs
    one_order [] [] up up' all all' alike = refl
    one_order [] (y ∷ ys) up up' all all' alike = absurd (omega (arith, alike (λ x. 1), sum_by-cons (λ (x : X). 1) y ys))
    one_order (x ∷ xs) [] up up' all all' alike = absurd (omega (arith, alike (λ x. 1), sum_by-cons (λ (x : X). 1) x xs))
    one_order (x ∷ xs) (y ∷ ys) up up' all all' alike =
        let low : m y ≤ m x =
        first_is_least (m x) y ys up' (omega (arith, alike (counts (m x)), sum_by-cons (counts (m x)) x xs, counts_own (m x) x refl)) in
        let high : m x ≤ m y =
        first_is_least (m y) x xs up (omega (arith, alike (counts (m y)), sum_by-cons (counts (m y)) y ys, counts_own (m y) y refl)) in
        let number : m y ≡ m x = omega arith in
        let same : y ≡ x = All-head IsTold y ys all' ∙ ap of number ∙ sym (All-head IsTold x xs all) in
        ap (λ (z : X). z ∷ ys) same
        ∙ ap (λ (l : List X). x ∷ l)
        (one_order xs ys (λ i j d le within. up (suc i) (suc j) d (omega arith) (omega arith)) (λ i j d le within. up' (suc i) (suc j) d (omega arith) (omega arith)) (All-tail IsTold x xs all) (All-tail IsTold y ys all')
        (alike_rest x xs ys (λ f. ap (λ (z : X). sum_by f (z ∷ ys)) (sym same) ∙ alike f)))
