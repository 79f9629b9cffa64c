-- How pieces of a file go on.
use Rattle.std.proofs.Common.{◌≡◌, ℕ, ◌+◌, ◌≤◌, List, Result, Ok, Err, ◌++◌, length, take, drop, sym, ◌∙◌, ap, arith, append_assoc, take-append-drop, take-add, length-take}
use Rattle.std.specs.Result.{IsOk, OnOk}
use Rattle.std.proofs.lemmas.List.{take-append-le}

-- what stood first stays in front
pub kept_through : {X : Type 0} (old items new : List X) → take (length old) items ≡ old → take (length items) new ≡ items → take (length old) new ≡ old
kept_through {X} old items new kept later =
    let within : length old ≤ length items = omega (arith, ap (λ (l : List X). length l) kept, length-take (length old) items) in
    ap (λ (l : List X). take (length old) l) (sym (take-append-drop (length items) new) ∙ ap (λ (l : List X). l ++ drop (length items) new) later)
    ∙ take-append-le (length old) items (drop (length items) new) within ∙ kept

-- what was taken joins what came of the piece
pub come_on : (bytes piece : List ℕ) (at n : ℕ) → (bytes ++ take at piece) ++ take n (drop at piece) ≡ bytes ++ take (at + n) piece
come_on bytes piece at n =
    append_assoc bytes (take at piece) (take n (drop at piece)) ∙ ap (λ (l : List ℕ). bytes ++ l) (sym (take-add at n piece))

-- and is all of it in the end
pub all_come : (bytes piece : List ℕ) (at n : ℕ) → ((bytes ++ take at piece) ++ take n (drop at piece)) ++ drop (at + n) piece ≡ bytes ++ piece
all_come bytes piece at n =
    ap (λ (l : List ℕ). l ++ drop (at + n) piece) (come_on bytes piece at n) ∙ append_assoc bytes (take (at + n) piece) (drop (at + n) piece)
    ∙ ap (λ (l : List ℕ). bytes ++ l) (take-append-drop (at + n) piece)

-- what an answer says where it is Ok
pub was_ok : {T E : Type 0} {P : Type 0} (r : Result T E) → IsOk r → OnOk r P → P
was_ok (Ok x) is said = said
was_ok (Err e) is said = absurd (cc)
