-- How a text ends after more of it.
use Rattle.std.proofs.Common.{◌≡◌, ℕ, zero, suc, inl, inr, Option, Some, None, get_or, subst, ◌+◌, ◌-◌, ◌<◌, not, false, List, [], ◌∷◌, ◌++◌, length, take, drop, refl, sym, ◌∙◌, ap, arith, append_assoc, length-append}
use Rattle.std.specs.Prelude.{All, count_by, if◌then◌else◌}
use Rattle.std.specs.List.{suffix_len, after_last, position, position_or_len}
use Rattle.std.proofs.lemmas.Bool.{cases_lt, lt-ltb, le-ltb, eqb-true, false_from_ne_true}
use Rattle.std.proofs.lemmas.Option.{none-some}
use Rattle.std.proofs.lemmas.List.Quantifiers.{position-Some}
use Rattle.std.proofs.lemmas.List.{append-nil, reverse-append, take-append-le, drop-append-le, take_more, get_or-take, length-take}
use Rattle.std.proofs.lemmas.List.Sums.{suffix_len-le-length, sum_by-append, fails_before_first, position_or_len_is}
use Rattle.memchr.specs.Find.{IsFirstByte, is_byte}
use Rattle.uc_text.specs.Lines.{is_line_feed}
use Rattle.uc_gen.specs.Tally.{last_line, unfinished}

found_inside : (bytes : List ℕ) → position_or_len is_line_feed bytes < length bytes → position is_line_feed bytes ≡ Some (position_or_len is_line_feed bytes)
found_inside bytes inside = rw (lt-ltb (position_or_len is_line_feed bytes) (length bytes) inside) refl

get_or_default : (xs : List ℕ) (i d e : ℕ) → i < length xs → get_or xs i d ≡ get_or xs i e
get_or_default [] i d e below = absurd (omega (arith, below))
get_or_default (x ∷ xs) zero d e below = refl
get_or_default (x ∷ xs) (suc i) d e below = get_or_default xs i d e (omega (arith, below))

-- what a search for an LF finds
pub first_line_feed_is : (bytes : List ℕ) (found : Option ℕ) → IsFirstByte (is_byte 10) bytes found → found ≡ position is_line_feed bytes
first_line_feed_is bytes None nowhere =
    let place : position_or_len is_line_feed bytes ≡ length bytes = position_or_len_is (is_byte 10) bytes (length bytes) 0 (omega arith) (λ k lt. false_from_ne_true _ (nowhere k (omega arith) lt)) (λ lt. absurd (omega arith)) in
    rw (le-ltb (position_or_len is_line_feed bytes) (length bytes) (omega (arith, place))) refl
first_line_feed_is bytes (Some k) is =
    let place : position_or_len is_line_feed bytes ≡ k = position_or_len_is (is_byte 10) bytes k 0 (omega (arith, is.0.high)) (λ j lt. false_from_ne_true _ (is.0.before j (omega arith) lt)) (λ lt. is.1) in
    sym (found_inside bytes (omega (arith, place, is.0.high)) ∙ ap (λ (n : ℕ). Some n) place)

-- how many bytes stand behind the last LF
abbrev tail_len : List ℕ → ℕ
tail_len text = suffix_len (λ byte. not (is_line_feed byte)) text

tail_more : (text : List ℕ) (byte : ℕ) → is_line_feed byte ≡ false → tail_len (text ++ byte ∷ []) ≡ 1 + tail_len text
tail_more text byte other = rw (reverse-append text (byte ∷ [])) (rw other refl)

-- one byte more that is no LF
one_unfinished : (text : List ℕ) (byte : ℕ) → is_line_feed byte ≡ false → unfinished (text ++ byte ∷ []) ≡ unfinished text ++ byte ∷ []
one_unfinished text byte other =
    let within = suffix_len-le-length (λ b. not (is_line_feed b)) text in
    let place : length (text ++ byte ∷ []) - tail_len (text ++ byte ∷ []) ≡ length text - tail_len text =
    omega (arith, length-append text (byte ∷ []), tail_more text byte other) in
    ap (λ (n : ℕ). drop n (text ++ byte ∷ [])) place ∙ drop-append-le (length text - tail_len text) text (byte ∷ []) (omega arith)

one_last : (text : List ℕ) (byte : ℕ) → is_line_feed byte ≡ false → last_line (text ++ byte ∷ []) ≡ last_line text
one_last text byte other =
    let within = suffix_len-le-length (λ b. not (is_line_feed b)) text in
    let place : length (text ++ byte ∷ []) - tail_len (text ++ byte ∷ []) - 1 ≡ length text - tail_len text - 1 =
    omega (arith, length-append text (byte ∷ []), tail_more text byte other) in
    ap (λ (n : ℕ). after_last is_line_feed (take n (text ++ byte ∷ []))) place
    ∙ ap (after_last is_line_feed) (take-append-le (length text - tail_len text - 1) text (byte ∷ []) (omega arith))

-- bytes without LF
pub part_unfinished : (text part : List ℕ) → All (λ byte. is_line_feed byte ≡ false) part → unfinished (text ++ part) ≡ unfinished text ++ part
part_unfinished text [] none = ap unfinished (append-nil text) ∙ sym (append-nil (unfinished text))
part_unfinished text (byte ∷ part) none =
    ap unfinished (sym (append_assoc text (byte ∷ []) part))
    ∙ part_unfinished (text ++ byte ∷ []) part (λ k d below. none (suc k) d (omega (arith, below)))
    ∙ ap (λ (l : List ℕ). l ++ part) (one_unfinished text byte (none 0 byte (omega arith)))
    ∙ append_assoc (unfinished text) (byte ∷ []) part

pub part_last : (text part : List ℕ) → All (λ byte. is_line_feed byte ≡ false) part → last_line (text ++ part) ≡ last_line text
part_last text [] none = ap last_line (append-nil text)
part_last text (byte ∷ part) none =
    ap last_line (sym (append_assoc text (byte ∷ []) part))
    ∙ part_last (text ++ byte ∷ []) part (λ k d below. none (suc k) d (omega (arith, below)))
    ∙ one_last text byte (none 0 byte (omega arith))

no_count : (part : List ℕ) → All (λ byte. is_line_feed byte ≡ false) part → count_by is_line_feed part ≡ 0
no_count [] none = refl
no_count (byte ∷ part) none =
    let here : is_line_feed byte ≡ false = none 0 byte (omega arith) in
    rw here (omega (arith, no_count part (λ k d below. none (suc k) d (omega (arith, below)))))

pub part_count : (text part : List ℕ) → All (λ byte. is_line_feed byte ≡ false) part → count_by is_line_feed (text ++ part) ≡ count_by is_line_feed text
part_count text part none =
    let both = sum_by-append (λ (byte : ℕ). if is_line_feed byte then 1 else 0) text part in
    omega (arith, both, no_count part none)

-- no LF stands before the first one
pub none_before : (bytes : List ℕ) (at : ℕ) → position is_line_feed bytes ≡ Some at → All (λ byte. is_line_feed byte ≡ false) (take at bytes)
none_before bytes at is =
    let found = position-Some is_line_feed bytes at 0 is in
    λ k d below.
    let inside : k < at = omega (arith, below, length-take at bytes) in
    let here = found.2 k inside in
    subst (λ (byte : ℕ). is_line_feed byte ≡ false) (sym (get_or-take at bytes k d inside ∙ get_or_default bytes k d 0 (omega (arith, inside, found.0)))) here

-- and none where there is no first one
pub none_at_all : (bytes : List ℕ) → position is_line_feed bytes ≡ None → All (λ byte. is_line_feed byte ≡ false) bytes
none_at_all bytes none = elim (cases_lt (position_or_len is_line_feed bytes) (length bytes)) [
  | inl inside ↦ absurd (none-some (position_or_len is_line_feed bytes) (sym none ∙ found_inside bytes inside))
  | inr past ↦ λ k d below. fails_before_first is_line_feed bytes k d (omega (arith, below, past))
]

-- the first one ends what stands before it
pub first_ends : (bytes : List ℕ) (at : ℕ) → position is_line_feed bytes ≡ Some at → (at < length bytes) × (take (at + 1) bytes ≡ take at bytes ++ 10 ∷ [])
first_ends bytes at is =
    let found = position-Some is_line_feed bytes at 0 is in
    (found.0, take_more bytes at 0 found.0 ∙ ap (λ (byte : ℕ). take at bytes ++ byte ∷ []) (eqb-true (get_or bytes at 0) 10 found.1))
