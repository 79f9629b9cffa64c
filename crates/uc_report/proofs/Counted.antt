-- Loops that write a text for each number of a range.
use Rattle.std.proofs.Common.{◌≡◌, ℕ, zero, suc, ◌+◌, ◌<◌, ◌≤◌, List, [], ◌∷◌, ◌++◌, length, get_or, take, drop, Result, Ok, Err, refl, sym, ◌∙◌, ap, subst, arith}
use Rattle.std.specs.List.{flat_map, range_with_len}
use Rattle.std.specs.Result.{IsErr}
use Rattle.std.proofs.Math.Seq.{drop-cons}
use Rattle.std.proofs.lemmas.List.{flat_map_more}
use Rattle.std.proofs.lemmas.List.FromFn.{get_or-range_with_len, length-range_with_len}
use Rattle.uc_io.specs.Writing.{Writes}
use Rattle.uc_io.proofs.Writes.{Writes-then, Writes-cut}

-- a front of a range is a range
take_range : (a n k : ℕ) → k ≤ n → take k (range_with_len a n) ≡ range_with_len a k
take_range a zero zero within = refl
take_range a zero (suc k) within = absurd (omega arith)
take_range a (suc n) zero within = refl
take_range a (suc n) (suc k) within =
    ap (λ (l : List ℕ). a ∷ l) (take_range (a + 1) n k (omega arith))

-- a range with one number more
range_more : (a n i : ℕ) → a + n ≡ i → range_with_len a (suc n) ≡ range_with_len a n ++ i ∷ []
range_more a zero i is = ap (λ (j : ℕ). j ∷ []) (omega arith)
range_more a (suc n) i is =
    ap (λ (l : List ℕ). a ∷ l) (range_more (a + 1) n i (omega arith))

-- nothing is left past the end of a list
pub none_left : {X : Type 0} (xs : List X) (a : ℕ) → length xs ≤ a → drop a xs ≡ []
none_left [] zero past = refl
none_left [] (suc a) past = refl
none_left (x ∷ xs) zero past = absurd (omega arith)
none_left (x ∷ xs) (suc a) past = none_left xs a (omega arith)

-- the items of a list from a place on, by their numbers
pub by_number : {X : Type 0} (text : X → List ℕ) (xs : List X) (d : X) (a n : ℕ) → a + n ≡ length xs → flat_map text (drop a xs) ≡ flat_map (λ i. text (get_or xs i d)) (range_with_len a n)
by_number {X = X} text xs d a zero all =
    ap (λ (l : List X). flat_map text l) (none_left xs a (omega arith))
by_number {X = X} text xs d a (suc n) all =
    let more : suc a ≡ a + 1 = omega arith in
    let next : flat_map text (drop (suc a) xs) ≡ flat_map text (drop (a + 1) xs) = ap (λ (b : ℕ). flat_map text (drop b xs)) more in
    ap (λ (l : List X). flat_map text l) (drop-cons xs a d (omega arith))
    ∙ ap (λ (l : List ℕ). text (get_or xs a d) ++ l) (next ∙ by_number text xs d (a + 1) n (omega arith))

module _ {D E : Type 0} (stands : D → List ℕ → Type 0) (faults : D → ℕ) (old mid new : D) (text : ℕ → List ℕ) (a m i : ℕ) (here : a + m ≡ i) where
  -- the texts so far, with that of one number more
  pub Writes-number : (k : ℕ) → m + 1 ≡ k → Writes {E = E} stands faults old mid (flat_map text (range_with_len a m)) (Ok tt) → Writes {E = E} stands faults mid new (text i) (Ok tt)
      → Writes {E = E} stands faults old new (flat_map text (range_with_len a k)) (Ok tt)
  Writes-number k next so_far wrote =
      let more : suc m ≡ k = omega arith in
      subst (λ (whole : List ℕ). Writes {E = E} stands faults old new whole (Ok tt))
      (flat_map_more text [] (range_with_len a m) i ∙ ap (λ (l : List ℕ). flat_map text l) (sym (range_more a m i here)) ∙ ap (λ (n : ℕ). flat_map text (range_with_len a n)) more)
      (Writes-then stands faults old mid new (flat_map text (range_with_len a m)) (text i) (Ok tt) so_far wrote)

  -- a loop that stopped at a number has written a front of all texts
  pub Writes-number-cut : {F : Type 0} (n : ℕ) (e : E) (r : Result (Unit {0}) F) → m < n → IsErr r → Writes {E = E} stands faults old mid (flat_map text (range_with_len a m)) (Ok tt)
      → Writes {E = E} stands faults mid new (text i) (Err e) → Writes stands faults old new (flat_map text (range_with_len a n)) r
  Writes-number-cut n e r inside err so_far failed =
      Writes-cut stands faults old mid new text (range_with_len a n) m 0 e r (omega (arith, length-range_with_len a n)) err
      (subst (λ (l : List ℕ). Writes {E = E} stands faults old mid (flat_map text l) (Ok tt)) (sym (take_range a n m (omega arith))) so_far)
      (subst (λ (j : ℕ). Writes {E = E} stands faults mid new (text j) (Err e)) (sym (get_or-range_with_len a n m 0 inside ∙ here)) failed)
