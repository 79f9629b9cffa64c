-- The first line of a text, and the lines of the rest.
use Rattle.std.proofs.Common.{◌≡◌, ℕ, suc, ◌+◌, ◌-◌, ◌<◌, Bool, true, false, cond, not, List, [], ◌∷◌, ◌++◌, length, take, drop, map, filter, refl, sym, ap, ◌∙◌, inl, inr, one-add, Option, None, Some, nat_eq, arith}
use Rattle.std.specs.Prelude.{unwrap_or, slice_index, ◌==◌}
use Rattle.std.specs.List.{All, enumerate_from, position, position_or_len, before_first, after_first, slice_split}
use Rattle.std.specs.Str.Lines.{strip_carriage_return}
use Rattle.std.proofs.lemmas.Bool.{cases_lt, lt-ltb, le-ltb, false_from_ne_true}
use Rattle.std.proofs.lemmas.List.{take_all, drop_all}
use Rattle.std.proofs.lemmas.List.Elements.{All-head, All-tail}
use Rattle.std.proofs.lemmas.List.Splits.{slice_split_none, slice_split_first, length-slice_split}
use Rattle.std.proofs.lemmas.List.Sums.{fails_before_first, position_or_len_is, prefix_len-le-length}
use Rattle.memchr.specs.Find.{IsFirstByte, is_byte}
use Rattle.uc_text.specs.Lines.{counts, is_line_feed, without_empty_last, lines_of}
use Rattle.uc_script.specs.FirstLine.{first_line, after_line}
use Rattle.uc_script.specs.Schedules.{IsLineOfBeats}

-- what `position` finds, or else the length
pub position_or_end : (p : ℕ → Bool) (bytes : List ℕ) → unwrap_or (position p bytes) (length bytes) ≡ position_or_len p bytes
position_or_end p bytes =
    elim (cases_lt (position_or_len p bytes) (length bytes)) [
      | inl lt ↦ rw (lt-ltb (position_or_len p bytes) (length bytes) lt) refl
      | inr le ↦ rw (le-ltb (position_or_len p bytes) (length bytes) le) (omega (arith, le, prefix_len-le-length (λ byte. not (p byte)) bytes))
    ]

-- the same of what a search for one byte finds
pub first_byte_at : (byte : ℕ) (bytes : List ℕ) (r : Option ℕ) → IsFirstByte (is_byte byte) bytes r → unwrap_or r (length bytes) ≡ position_or_len (is_byte byte) bytes
first_byte_at byte bytes None nowhere =
    sym (position_or_len_is (is_byte byte) bytes (length bytes) 0 (omega arith) (λ k lt. false_from_ne_true _ (nowhere k (omega arith) lt)) (λ lt. absurd (omega arith)))
first_byte_at byte bytes (Some k) found =
    sym (position_or_len_is (is_byte byte) bytes k 0 (omega (arith, found.0.high)) (λ j lt. false_from_ne_true _ (found.0.before j (omega arith) lt)) (λ lt. found.1))

-- ---- the lines of a text

with_first : (piece : List ℕ) (pieces : List (List ℕ)) → 0 < length pieces → without_empty_last (piece ∷ pieces) ≡ piece ∷ without_empty_last pieces
with_first piece [] some = absurd (omega arith)
with_first [] (next ∷ more) some = refl
with_first (byte ∷ bytes) (next ∷ more) some = refl

one_piece : (piece : List ℕ) → 0 < length piece → without_empty_last (piece ∷ []) ≡ piece ∷ []
one_piece [] some = absurd (omega arith)
one_piece (byte ∷ bytes) some = refl

module _ (p : ℕ → Bool) where
  split_once : (bytes : List ℕ) → 0 < length bytes
      → without_empty_last (slice_split p bytes) ≡ take (position_or_len p bytes) bytes ∷ without_empty_last (slice_split p (drop (position_or_len p bytes + 1) bytes))
  split_once bytes some =
      elim (cases_lt (position_or_len p bytes) (length bytes)) [
        | inl lt ↦ ap without_empty_last (slice_split_first p bytes 0 lt) ∙ with_first (before_first p bytes) (slice_split p (after_first p bytes)) (omega (arith, length-slice_split p (after_first p bytes)))
        | inr le ↦
            let front : take (position_or_len p bytes) bytes ≡ bytes = take_all (position_or_len p bytes) bytes le in
            let back : drop (position_or_len p bytes + 1) bytes ≡ [] = drop_all (position_or_len p bytes + 1) bytes (omega arith) in
            let whole : slice_split p bytes ≡ bytes ∷ [] = slice_split_none p bytes (λ k d lt. fails_before_first p bytes k d (omega arith)) in
            ap without_empty_last whole ∙ one_piece bytes some
            ∙ sym (ap (λ (x : List ℕ). x ∷ without_empty_last (slice_split p (drop (position_or_len p bytes + 1) bytes))) front ∙ ap (λ (y : List ℕ). bytes ∷ without_empty_last (slice_split p y)) back)
      ]

pub lines_of-nil : lines_of [] ≡ []
unfolding lines_of
lines_of-nil = refl

-- the lines of a text that is not empty are its first line and those of what follows
pub lines_of-first : (text : List ℕ) → 0 < length text → lines_of text ≡ first_line text ∷ lines_of (after_line text)
unfolding lines_of
lines_of-first text some = ap (map strip_carriage_return) (split_once is_line_feed text some)

pub numbered-first : (number : ℕ) (text : List ℕ) → 0 < length text → enumerate_from number (lines_of text) ≡ (number, first_line text) ∷ enumerate_from (number + 1) (lines_of (after_line text))
numbered-first number text some = ap (enumerate_from number) (lines_of-first text some)

-- ---- the bytes at the front of a line

-- neither a blank nor a part of the end of a line
abbrev pub IsPlain : ℕ → Type 0
IsPlain byte = (nat_eq byte 10 ≡ false) × (nat_eq byte 13 ≡ false)

cond_cons : (b : Bool) (byte : ℕ) (xs ys : List ℕ) → cond b (byte ∷ xs) (byte ∷ ys) ≡ byte ∷ cond b xs ys
cond_cons true byte xs ys = refl
cond_cons false byte xs ys = refl

strip-cons : (byte : ℕ) (text : List ℕ) → nat_eq byte 13 ≡ false → strip_carriage_return (byte ∷ text) ≡ byte ∷ strip_carriage_return text
strip-cons byte [] other = rw other refl
strip-cons byte (next ∷ text) other =
    let whole : length (byte ∷ next ∷ text) - 1 ≡ suc (length text) = omega arith in
    let less : length (next ∷ text) - 1 ≡ length text = omega arith in
    ap (λ (n : ℕ). cond (slice_index (byte ∷ next ∷ text) n == 13) (take n (byte ∷ next ∷ text)) (byte ∷ next ∷ text)) whole
    ∙ cond_cons (slice_index (next ∷ text) (length text) == 13) byte (take (length text) (next ∷ text)) (next ∷ text)
    ∙ sym (ap (λ (n : ℕ). byte ∷ cond (slice_index (next ∷ text) n == 13) (take n (next ∷ text)) (next ∷ text)) less)

module _ (byte : ℕ) (text : List ℕ) (plain : IsPlain byte) where
  later : position_or_len is_line_feed (byte ∷ text) ≡ suc (position_or_len is_line_feed text)
  later = rw (plain.0, one-add) refl

  pub first_line-cons : first_line (byte ∷ text) ≡ byte ∷ first_line text
  first_line-cons =
      ap (λ (n : ℕ). strip_carriage_return (take n (byte ∷ text))) later ∙ strip-cons byte (take (position_or_len is_line_feed text) text) plain.1

  pub after_line-cons : after_line (byte ∷ text) ≡ after_line text
  after_line-cons =
      let at : position_or_len is_line_feed (byte ∷ text) + 1 ≡ suc (position_or_len is_line_feed text + 1) = omega (arith, later) in
      ap (λ (n : ℕ). drop n (byte ∷ text)) at

pub first_line-append : (front text : List ℕ) → All IsPlain front → first_line (front ++ text) ≡ front ++ first_line text
first_line-append [] text plain = refl
first_line-append (byte ∷ front) text plain =
    first_line-cons byte (front ++ text) (All-head IsPlain byte front plain) ∙ ap (λ (l : List ℕ). byte ∷ l) (first_line-append front text (All-tail IsPlain byte front plain))

pub after_line-append : (front text : List ℕ) → All IsPlain front → after_line (front ++ text) ≡ after_line text
after_line-append [] text plain = refl
after_line-append (byte ∷ front) text plain =
    after_line-cons byte (front ++ text) (All-head IsPlain byte front plain) ∙ after_line-append front text (All-tail IsPlain byte front plain)

pub first_line-feed : (byte : ℕ) (text : List ℕ) → byte ≡ 10 → first_line (byte ∷ text) ≡ []
first_line-feed byte text is = ap (λ (b : ℕ). first_line (b ∷ text)) is

pub after_line-feed : (byte : ℕ) (text : List ℕ) → byte ≡ 10 → after_line (byte ∷ text) ≡ text
after_line-feed byte text is = ap (λ (b : ℕ). after_line (b ∷ text)) is

-- the same of numbered lines, in the parts that a reader has
pub numbered-parts : (number : ℕ) (text line rest : List ℕ) → 0 < length text → line ≡ first_line text → rest ≡ after_line text → enumerate_from number (lines_of text) ≡ (number, line) ∷ enumerate_from (number + 1) (lines_of rest)
numbered-parts number text line rest some is_line is_rest = numbered-first number text some ∙ rw (is_line, is_rest) refl

-- where the first line counts, it is the first of those that do
pub counted-first : (number : ℕ) (text : List ℕ) → IsLineOfBeats text
    → filter counts (enumerate_from number (lines_of text)) ≡ (number, first_line text) ∷ filter counts (enumerate_from (number + 1) (lines_of (after_line text)))
counted-first number text line =
    let more : List (ℕ × List ℕ) = enumerate_from (number + 1) (lines_of (after_line text)) in
    ap (filter counts) (numbered-first number text line.some) ∙ ap (λ (b : Bool). cond b ((number, first_line text) ∷ filter counts more) (filter counts more)) (line.counted number)

pub counted-parts : (number : ℕ) (text rest : List ℕ) → IsLineOfBeats text → rest ≡ after_line text
    → filter counts (enumerate_from number (lines_of text)) ≡ (number, first_line text) ∷ filter counts (enumerate_from (number + 1) (lines_of rest))
counted-parts number text rest line is_rest =
    counted-first number text line ∙ ap (λ (t : List ℕ). (number, first_line text) ∷ filter counts (enumerate_from (number + 1) (lines_of t))) (sym is_rest)
