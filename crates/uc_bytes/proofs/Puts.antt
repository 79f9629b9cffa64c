-- A word that was put is read back, and what is put behind a front leaves the rest.
use Rattle.std.proofs.Common.{◌≡◌, ℕ, ◌+◌, ◌-◌, ◌<◌, ◌≤◌, ◌^◌, List, [], ◌++◌, length, take, drop, ap, sym, ◌∙◌, append_assoc, arith, length-take, length-drop}
use Rattle.std.proofs.Math.Seq.{drop-append_seam}
use Rattle.std.proofs.lemmas.List.{append-nil, drop-drop, drop_all, take_all}
use borrow.Rule.Slice.PartMut.{mid_of, post_of, put_mid}
use Rattle.byteorder.specs.Endian.{little_number, little_bytes}
use Rattle.byteorder.specs.Numbers.{little_number-reads_back}
use Rattle.uc_bytes.specs.Words.{word}

-- behind a front, the word is the one of what comes next
word-behind : (front rest : List ℕ) (at : ℕ) → at ≡ length front → word (front ++ rest) at ≡ little_number 4 rest
unfolding word
word-behind front rest at e =
    ap (λ (k : ℕ). little_number 4 (drop k (front ++ rest))) e ∙ ap (little_number 4) (drop-append_seam front rest)

-- the word that was put behind a front is the word there
pub word_put : (bytes rest : List ℕ) (at value : ℕ) → at ≤ length bytes → value < 2 ^ 32
    → word (take at bytes ++ little_bytes 4 value ++ rest) at ≡ value
word_put bytes rest at value inside fits =
    ap (λ (all : List ℕ). word all at) (append_assoc (take at bytes) (little_bytes 4 value) rest)
    ∙ word-behind (take at bytes) (little_bytes 4 value ++ rest) at (omega (arith, length-take at bytes))
    ∙ little_number-reads_back 4 value rest (omega arith)

-- four bytes that are written at the begin of what lies behind a front
pub put_behind : (bytes part : List ℕ) (at : ℕ)
    → put_mid at (length bytes - at) bytes (part ++ drop 4 (mid_of at (length bytes - at) bytes)) ≡ take at bytes ++ part ++ drop (at + 4) bytes
put_behind bytes part at =
    let behind = length-drop at bytes in
    let all : mid_of at (length bytes - at) bytes ≡ drop at bytes = take_all (length bytes - at) (drop at bytes) (omega arith) in
    let none : post_of at (length bytes - at) bytes ≡ [] = drop_all (length bytes - at) (drop at bytes) (omega arith) in
    ap (λ (middle : List ℕ). take at bytes ++ (part ++ drop 4 middle ++ post_of at (length bytes - at) bytes)) all
    ∙ ap (λ (after : List ℕ). take at bytes ++ (part ++ drop 4 (drop at bytes) ++ after)) none
    ∙ ap (λ (middle : List ℕ). take at bytes ++ middle) (append-nil (part ++ drop 4 (drop at bytes)))
    ∙ ap (λ (after : List ℕ). take at bytes ++ (part ++ after)) (drop-drop 4 at bytes)
    ∙ sym (append_assoc (take at bytes) part (drop (at + 4) bytes))
