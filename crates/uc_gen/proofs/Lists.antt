-- Lists that grow at their end.
use Rattle.std.proofs.Common.{◌≡◌, ℕ, zero, suc, ◌+◌, ◌-◌, ◌<◌, ◌≤◌, List, [], ◌∷◌, ◌++◌, length, take, drop, min, length-drop, inl, inr, refl, sym, ◌∙◌, ap, arith, append_assoc}
use Rattle.std.specs.Prelude.{flat_map}
use Rattle.std.specs.List.{range_with_len}
use Rattle.std.proofs.lemmas.Bool.{cases_lt}
use Rattle.std.proofs.Math.Seq.{take-add}
use Rattle.std.proofs.lemmas.List.{flat_map_more, map-id, take_all, drop-drop}
use Rattle.std.proofs.lemmas.List.FromFn.{map-range_with_len_more}

-- the pieces for one number more
pub flat_map_range_more : {A : Type 0} (f : ℕ → List A) (n : ℕ) → flat_map f (range_with_len 0 (n + 1)) ≡ flat_map f (range_with_len 0 n) ++ f n
flat_map_range_more f n =
    let id : ℕ → ℕ = λ k. k in
    let range : range_with_len 0 (n + 1) ≡ range_with_len 0 n ++ n ∷ [] =
    sym (map-id (range_with_len 0 (n + 1))) ∙ map-range_with_len_more id 0 n n (omega arith) ∙ ap (λ (l : List ℕ). l ++ n ∷ []) (map-id (range_with_len 0 n)) in
    ap (flat_map f) range ∙ sym (flat_map_more f [] (range_with_len 0 n) n)

-- a list that is cut, and more behind it, cut likewise
pub cut_more : (n : ℕ) (xs ys : List ℕ) → take n (xs ++ ys) ≡ take n xs ++ take (n - length (take n xs)) ys
cut_more zero xs ys = refl
cut_more (suc n) [] ys =
    let room : suc n - 0 ≡ suc n = omega arith in
    rw room refl
cut_more (suc n) (x ∷ xs) ys =
    let behind = cut_more n xs ys in
    let room : suc n - suc (length (take n xs)) ≡ n - length (take n xs) = omega arith in
    rw room (λ i. x ∷ behind i)

-- a cut by the shorter of two lengths
pub take_within : (n k : ℕ) (xs : List ℕ) → k ≡ min (length xs) n → take k xs ≡ take n xs
take_within n k xs is = elim (cases_lt n (length xs)) [
  | inl inside ↦ ap (λ (m : ℕ). take m xs) (omega (arith, is, inside))
  | inr past ↦ take_all k xs (omega (arith, is, past)) ∙ sym (take_all n xs past)
]

-- what is left of a list, and what stands before it, after some more of it
pub further : (piece rest after : List ℕ) (at : ℕ) → length rest ≤ length piece → rest ≡ drop (length piece - length rest) piece → at < length rest → after ≡ drop (at + 1) rest
    → (length after ≤ length piece) × (after ≡ drop (length piece - length after) piece) × (take (length piece - length after) piece ≡ take (length piece - length rest) piece ++ take (at + 1) rest)
further piece rest after at within is inside behind =
    let n : ℕ = length piece - length rest in
    let left : length after ≡ length rest - (at + 1) = ap length behind ∙ length-drop (at + 1) rest in
    let place : n + (at + 1) ≡ length piece - length after = omega (arith, left, within, inside) in (
      omega (arith, left, within),
      behind ∙ ap (drop (at + 1)) is ∙ drop-drop (at + 1) n piece ∙ ap (λ (m : ℕ). drop m piece) place,
      sym (ap (λ (m : ℕ). take m piece) place) ∙ take-add n (at + 1) piece ∙ ap (λ (l : List ℕ). take n piece ++ take (at + 1) l) (sym is),
    )

pub append_four : (a b c d : List ℕ) → ((a ++ b) ++ c) ++ d ≡ a ++ (b ++ (c ++ d))
append_four a b c d = append_assoc (a ++ b) c d ∙ append_assoc a b (c ++ d)
