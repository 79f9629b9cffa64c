-- Counting the threads of a kind, by their numbers and in the table.
use Rattle.std.proofs.Common.{◌≡◌, ℕ, ◌-◌, Bool, List, [], ◌∷◌, length, count_by, map, fold, slice_get, unwrap_or, refl, sym, ap, ◌∙◌, arith}
use Rattle.std.specs.List.{range_with_len}
use Rattle.std.proofs.lemmas.List.FromFn.{fill_by_all}
use Rattle.std.proofs.lemmas.Option.{unwrap_or-slice_get}

fold-map : {X Y Z : Type 0} (step : Z → Y → Z) (f : X → Y) (a : Z) (xs : List X) → fold step a (map f xs) ≡ fold (λ b x. step b (f x)) a xs
fold-map step f a [] = refl
fold-map step f a (x ∷ xs) = fold-map step f (step a (f x)) xs

count_by-map : {X Y : Type 0} (p : Y → Bool) (f : X → Y) (xs : List X) → count_by p (map f xs) ≡ count_by (λ x. p (f x)) xs
count_by-map p f xs = fold-map _ f 0 xs

-- the entries of a table that pass, counted by their numbers
pub count_by-table : {X : Type 0} (p : X → Bool) (xs : List X) (n : ℕ) (d : X) → length xs ≡ n → count_by p xs ≡ count_by (λ k. p (unwrap_or (slice_get xs k) d)) (range_with_len 0 (n - 0))
count_by-table {X} p xs n d same =
    let entry : ℕ → X = λ k. unwrap_or (slice_get xs k) d in
    let all : length xs ≡ n - 0 = omega arith in
    let table = fill_by_all entry xs (n - 0) d all (λ k below. sym (unwrap_or-slice_get xs k d)) in
    ap (count_by p) table ∙ count_by-map p entry (range_with_len 0 (n - 0))
