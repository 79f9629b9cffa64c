-- Searches in lists that rise by a number.
use Rattle.std.proofs.Common.{◌≡◌, ◌≢◌, ℕ, zero, suc, ◌+◌, ◌<◌, ◌≤◌, Bool, true, false, List, [], ◌∷◌, Option, Some, None, length, get_or, refl, sym, ◌∙◌, ap, arith, eq-eqb}
use Rattle.std.specs.Prelude.{◌==◌, All, filter, slice_get, if◌then◌else◌}
use Rattle.std.specs.Ordering.{nat_cmp, is_lt, ordering_then}
use Rattle.std.specs.Cmp.{IsStrictWeakOrder}
use Rattle.std.specs.List.Sorted.{IsNonDecreasingBy, IsSortedBy}
use Rattle.std.proofs.lemmas.Bool.Decides.{nat_tests}
use Rattle.std.proofs.lemmas.Cmp.{nat_cmp_total, on_total, then_total}
use Rattle.std.proofs.lemmas.List.Elements.{All-filter, filter_passes}
use Rattle.std.proofs.lemmas.List.Kept.{IsSortedBy-filter, IsNonDecreasingBy-filter}
use Rattle.std.proofs.lemmas.List.Sorted.{ranks_by, IsNonDecreasingBy-from_all_adjacent}
use Rattle.equiv_index.proofs.Alike.{Alike, alike_filter, IsTold, one_order}

module _ {X : Type 0} (n : X → ℕ) (key : ℕ) where
  -- the items with a number
  abbrev pub having : List X → List X
  having xs = filter (λ (x : X). n x == key) xs

  -- an item, where it has the number
  abbrev pub if_having : Option X → Option X
  if_having None = None
  if_having (Some x) = if n x == key then Some x else None

  -- none has it where all are above
  none_having : (xs : List X) → ((j : ℕ) (d : X) → j < length xs → key < n (get_or xs j d)) → having xs ≡ []
  none_having [] above = refl
  none_having (x ∷ xs) above =
      let here : key < n x = above 0 x (omega arith) in
      let other : (n x == key) ≡ false = grind (arith, nat_tests) in
      rw other (none_having xs (λ j d within. above (suc j) d (omega arith)))

  none_at : (xs : List X) (place : ℕ) → ((j : ℕ) (d : X) → j < length xs → key < n (get_or xs j d)) → if_having (slice_get xs place) ≡ None
  none_at [] place above = refl
  none_at (x ∷ xs) zero above =
      let here : key < n x = above 0 x (omega arith) in
      let other : (n x == key) ≡ false = grind (arith, nat_tests) in
      rw other refl
  none_at (x ∷ xs) (suc place) above = none_at xs place (λ j d within. above (suc j) d (omega arith))

  module _ (x : X) (xs : List X) (up : IsNonDecreasingBy n (x ∷ xs)) (from : (j : ℕ) (d : X) → j < length (x ∷ xs) → key ≤ n (get_or (x ∷ xs) j d)) where
    -- the first item has the number, or none has it
    nth_split : (k : ℕ) (b : Bool) → (n x == key) ≡ b → ((m : ℕ) → slice_get (having xs) m ≡ if_having (slice_get xs m)) → slice_get (having (x ∷ xs)) k ≡ if_having (slice_get (x ∷ xs) k)
    nth_split zero true is rest = rw is refl
    nth_split (suc k) true is rest = rw is (rest k)
    nth_split k false is rest =
        let least : key ≤ n x = from 0 x (omega arith) in
        let apart : key < n x = grind (arith, nat_tests) in
        let above : (j : ℕ) (d : X) → j < length (x ∷ xs) → key < n (get_or (x ∷ xs) j d) = λ j d within. omega (arith, apart, up 0 j d (omega arith) within) in
        ap (λ (l : List X). slice_get l k) (none_having (x ∷ xs) above) ∙ sym (none_at (x ∷ xs) k above)

  -- where none is below the number, those that have it come first
  nth_first : (xs : List X) (k : ℕ) → IsNonDecreasingBy n xs → ((j : ℕ) (d : X) → j < length xs → key ≤ n (get_or xs j d)) → slice_get (having xs) k ≡ if_having (slice_get xs k)
  nth_first [] k up from = refl
  nth_first (x ∷ xs) k up from =
      nth_split x xs up from k (n x == key) refl (λ m. nth_first xs m (λ i j d le within. up (suc i) (suc j) d (omega arith) (omega arith)) (λ j d within. from (suc j) d (omega arith)))

  -- and so behind the items below it
  pub nth_having : (xs : List X) (at k place : ℕ) → IsNonDecreasingBy n xs → ((j : ℕ) (d : X) → j < at → j < length xs → n (get_or xs j d) < key)
      → ((j : ℕ) (d : X) → at ≤ j → j < length xs → key ≤ n (get_or xs j d)) → place ≡ at + k → slice_get (having xs) k ≡ if_having (slice_get xs place)
  nth_having [] at k place up below from is = refl
  nth_having (x ∷ xs) (suc at) k zero up below from is = absurd (omega arith)
  nth_having (x ∷ xs) (suc at) k (suc place) up below from is =
      let here : n x < key = below 0 x (omega arith) (omega arith) in
      let other : (n x == key) ≡ false = grind (arith, nat_tests) in
      rw other
      (nth_having xs at k place (λ i j d le within. up (suc i) (suc j) d (omega arith) (omega arith)) (λ j d before within. below (suc j) d (omega arith) (omega arith)) (λ j d behind within. from (suc j) d (omega arith) (omega arith)) (omega arith))
  nth_having (x ∷ xs) zero k place up below from is =
      let same : k ≡ place = omega arith in
      nth_first (x ∷ xs) k up (λ j d within. from j d (omega arith) within) ∙ ap (λ (m : ℕ). if_having (slice_get (x ∷ xs) m)) same

  -- the item at a place, where it has the number
  pub found_having : (xs : List X) (place : ℕ) (d : X) → place < length xs → n (get_or xs place d) ≡ key → if_having (slice_get xs place) ≡ Some (get_or xs place d)
  found_having [] place d within is = absurd (omega arith)
  found_having (x ∷ xs) zero d within is = rw (eq-eqb (n x) key is) refl
  found_having (x ∷ xs) (suc place) d within is = found_having xs place d (omega arith) is

  pub none_found : (xs : List X) (place : ℕ) (d : X) → (place < length xs → n (get_or xs place d) ≢ key) → if_having (slice_get xs place) ≡ None
  none_found [] place d other = refl
  none_found (x ∷ xs) zero d other =
      let differs : n x ≢ key = other (omega arith) in
      let apart : (n x == key) ≡ false = grind (arith, nat_tests) in
      rw apart refl
  none_found (x ∷ xs) (suc place) d other = none_found xs place d (λ within. other (omega arith))

-- of two pairs of which none is below the other, the first numbers do not fall
no_lower_first : (a b c d : ℕ) → is_lt (ordering_then (nat_cmp a c) (nat_cmp b d)) ≡ false → c ≤ a
no_lower_first a b c d is = grind (arith, nat_tests)

-- and the second ones do not where the first are equal
no_lower_second : (a b c d : ℕ) → is_lt (ordering_then (nat_cmp a c) (nat_cmp b d)) ≡ false → a ≡ c → d ≤ b
no_lower_second a b c d is same = grind (arith, nat_tests)

equal_by_test : (a b c : ℕ) → (a == c) ≡ true → (b == c) ≡ true → a ≡ b
equal_by_test a b c is also = grind (arith, nat_tests)

module _ {X : Type 0} (n m : X → ℕ) where
  -- by one number, and by another where that is equal
  abbrev pub is_below : X → X → Bool
  is_below x y = is_lt (ordering_then (nat_cmp (n x) (n y)) (nat_cmp (m x) (m y)))

  below_ranks : IsStrictWeakOrder is_below
  below_ranks = ranks_by (then_total (on_total (λ (p : ℕ × ℕ). p.0) nat_cmp_total) (on_total (λ (p : ℕ × ℕ). p.1) nat_cmp_total)) (λ (x : X). (n x, m x))

  pub rises_first : (xs : List X) → IsSortedBy is_below xs → IsNonDecreasingBy n xs
  rises_first xs up = IsNonDecreasingBy-from_all_adjacent n xs (λ k d within.
      let here = get_or xs k d in
      let next = get_or xs (k + 1) d in
      no_lower_first (n next) (m next) (n here) (m here) (up k d (omega arith) within))

  -- those that have one first number rise by the second
  having_rises : (key : ℕ) (xs : List X) → IsSortedBy is_below xs → IsNonDecreasingBy m (having n key xs)
  having_rises key xs up =
      let has : X → Bool = λ x. n x == key in
      let kept : IsSortedBy is_below (filter has xs) = IsSortedBy-filter is_below below_ranks has xs up in
      let passes : All (λ x. has x ≡ true) (filter has xs) = filter_passes has xs in
      IsNonDecreasingBy-from_all_adjacent m (filter has xs)
      (λ k d within.
      let here = get_or (filter has xs) k d in
      let next = get_or (filter has xs) (k + 1) d in
      let same : n next ≡ n here = equal_by_test (n next) (n here) key (passes (k + 1) d within) (passes k d (omega arith)) in
      no_lower_second (n next) (m next) (n here) (m here) (kept k d (omega arith) within) same)

  -- where the second number tells an item, a sort by both leaves those of one first number in the order of the second
  pub sorted_having : (of : ℕ → X) (key : ℕ) (xs ys : List X) → Alike xs ys → IsNonDecreasingBy m xs → IsSortedBy is_below ys → All (IsTold m of) xs → All (IsTold m of) ys → having n key ys ≡ having n key xs
  sorted_having of key xs ys alike up sorted all all' =
      let has : X → Bool = λ x. n x == key in
      one_order m of (filter has xs) (filter has ys) (IsNonDecreasingBy-filter m has xs up) (having_rises key ys sorted)
      (All-filter has (IsTold m of) xs all) (All-filter has (IsTold m of) ys all') (alike_filter has xs ys alike)
