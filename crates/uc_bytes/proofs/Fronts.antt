-- A word at the front of bytes does not depend on what follows it.
use Rattle.std.proofs.Common.{◌≡◌, ℕ, ◌+◌, ◌-◌, ◌≤◌, List, ◌++◌, length, take, drop, ◌∙◌, ap, arith, length-drop}
use Rattle.std.proofs.lemmas.List.{drop-append-le, drop-take}
use Rattle.byteorder.specs.Endian.{little_number}
use Rattle.byteorder.specs.Numbers.{little_from-append, little_from-take}
use Rattle.uc_bytes.specs.Words.{word, half}

-- a word is read from its four bytes
pub word-append : (xs ys : List ℕ) (at : ℕ) → at + 4 ≤ length xs → word (xs ++ ys) at ≡ word xs at
unfolding word
word-append xs ys at inside =
    ap (little_number 4) (drop-append-le at xs ys (omega arith)) ∙ little_from-append 4 (drop at xs) ys (omega (arith, length-drop at xs))

-- a half word is read from its two bytes
pub half-append : (xs ys : List ℕ) (at : ℕ) → at + 2 ≤ length xs → half (xs ++ ys) at ≡ half xs at
unfolding half
half-append xs ys at inside =
    ap (little_number 2) (drop-append-le at xs ys (omega arith)) ∙ little_from-append 2 (drop at xs) ys (omega (arith, length-drop at xs))

-- a word in the front of bytes
pub word-take : (n : ℕ) (bytes : List ℕ) (at : ℕ) → at + 4 ≤ n → word (take n bytes) at ≡ word bytes at
unfolding word
word-take n bytes at inside =
    let split : n ≡ at + (n - at) = omega arith in
    ap (λ (k : ℕ). little_number 4 (drop at (take k bytes))) split ∙ ap (little_number 4) (drop-take at (n - at) bytes) ∙ little_from-take 0 4 (n - at) (drop at bytes) (omega arith)

-- a half word in the front of bytes
pub half-take : (n : ℕ) (bytes : List ℕ) (at : ℕ) → at + 2 ≤ n → half (take n bytes) at ≡ half bytes at
unfolding half
half-take n bytes at inside =
    let split : n ≡ at + (n - at) = omega arith in
    ap (λ (k : ℕ). little_number 2 (drop at (take k bytes))) split ∙ ap (little_number 2) (drop-take at (n - at) bytes) ∙ little_from-take 0 2 (n - at) (drop at bytes) (omega arith)
