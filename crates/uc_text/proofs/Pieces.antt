-- The first line of a text and the first word of a line, and what is left.
use Rattle.std.proofs.Common.{◌≡◌, ℕ, ◌+◌, ◌<◌, ◌≤◌, Bool, true, false, not, List, [], ◌∷◌, length, take, drop, map, subst, filter, refl, sym, ap, ◌∙◌, inl, inr, one-add, Option, None, Some, nat_lt, arith}
use Rattle.std.specs.Prelude.{unwrap_or}
use Rattle.std.specs.List.{enumerate_from, position, position_or_len, before_first, after_first, slice_split}
use Rattle.std.specs.Str.Lines.{strip_carriage_return}
use Rattle.std.proofs.lemmas.Bool.{cases_lt, cases_Bool, lt-ltb, le-ltb, false_from_ne_true}
use Rattle.std.proofs.lemmas.List.{take_all, drop_all, length-take, length-drop, nil_from_length}
use Rattle.std.proofs.lemmas.List.Splits.{slice_split_none, slice_split_first, length-slice_split, slice_split-cons_yes}
use Rattle.std.proofs.lemmas.List.Sums.{fails_before_first, position_or_len_is, prefix_len-le-length}
use Rattle.memchr.specs.Find.{IsFirstByte, is_byte}
use Rattle.uc_text.specs.Lines.{is_line_feed, is_blank, is_in_word, has_bytes, without_empty_last, lines_of, words_of}

-- ---- any pieces

-- what `position` finds, or else the length
pub position_or_end : (p : ℕ → Bool) (bytes : List ℕ) → unwrap_or (position p bytes) (length bytes) ≡ position_or_len p bytes
position_or_end p bytes =
    elim (cases_lt (position_or_len p bytes) (length bytes)) [
      | inl lt ↦ rw (lt-ltb (position_or_len p bytes) (length bytes) lt) refl
      | inr le ↦ rw (le-ltb (position_or_len p bytes) (length bytes) le) (omega (arith, le, prefix_len-le-length (λ byte. not (p byte)) bytes))
    ]

-- the same of what a search for one byte finds
pub first_byte_at : (byte : ℕ) (bytes : List ℕ) (r : Option ℕ) → IsFirstByte (is_byte byte) bytes r → unwrap_or r (length bytes) ≡ position_or_len (is_byte byte) bytes
first_byte_at byte bytes None nowhere =
    sym (position_or_len_is (is_byte byte) bytes (length bytes) 0 (omega arith) (λ k lt. false_from_ne_true _ (nowhere k (omega arith) lt)) (λ lt. absurd (omega arith)))
first_byte_at byte bytes (Some k) found =
    sym (position_or_len_is (is_byte byte) bytes k 0 (omega (arith, found.0.high)) (λ j lt. false_from_ne_true _ (found.0.before j (omega arith) lt)) (λ lt. found.1))

-- pieces with one more piece before them
without_empty_last-cons : (piece : List ℕ) (pieces : List (List ℕ)) → 0 < length pieces → without_empty_last (piece ∷ pieces) ≡ piece ∷ without_empty_last pieces
without_empty_last-cons piece [] some = absurd (omega arith)
without_empty_last-cons [] (next ∷ more) some = refl
without_empty_last-cons (byte ∷ bytes) (next ∷ more) some = refl

-- one piece that is not empty
one_piece : (piece : List ℕ) → 0 < length piece → without_empty_last (piece ∷ []) ≡ piece ∷ []
one_piece [] some = absurd (omega arith)
one_piece (byte ∷ bytes) some = refl

-- a function of two lists at lists that are equal to them
ap2 : {X : Type 0} (f : List ℕ → List ℕ → X) {a b c d : List ℕ} → a ≡ b → c ≡ d → f a c ≡ f b d
ap2 f e g = cc

module _ (p : ℕ → Bool) where
  -- where no byte passes, the one piece is the whole
  split_whole : (bytes : List ℕ) → length bytes ≤ position_or_len p bytes → slice_split p bytes ≡ bytes ∷ []
  split_whole bytes none = slice_split_none p bytes (λ k d lt. fails_before_first p bytes k d (omega arith))

  -- the pieces of a text that is not empty: what stands before the first byte that passes, and the pieces of the rest
  split_once : (bytes : List ℕ) → 0 < length bytes
      → without_empty_last (slice_split p bytes) ≡ take (position_or_len p bytes) bytes ∷ without_empty_last (slice_split p (drop (position_or_len p bytes + 1) bytes))
  split_once bytes some =
      elim (cases_lt (position_or_len p bytes) (length bytes)) [
        | inl lt ↦ ap without_empty_last (slice_split_first p bytes 0 lt) ∙ without_empty_last-cons (before_first p bytes) (slice_split p (after_first p bytes)) (omega (arith, length-slice_split p (after_first p bytes)))
        | inr le ↦
            let front : take (position_or_len p bytes) bytes ≡ bytes = take_all (position_or_len p bytes) bytes le in
            let back : drop (position_or_len p bytes + 1) bytes ≡ [] = drop_all (position_or_len p bytes + 1) bytes (omega arith) in
            ap without_empty_last (split_whole bytes le) ∙ one_piece bytes some ∙ sym (ap2 (λ (x : List ℕ) (y : List ℕ). x ∷ without_empty_last (slice_split p y)) front back)
      ]

-- ---- lines

pub lines_of-nil : lines_of [] ≡ []
unfolding lines_of
lines_of-nil = refl

-- the first line, and the lines of the rest
pub lines_of-first : (bytes : List ℕ) → 0 < length bytes
    → lines_of bytes ≡ strip_carriage_return (take (position_or_len is_line_feed bytes) bytes) ∷ lines_of (drop (position_or_len is_line_feed bytes + 1) bytes)
unfolding lines_of
lines_of-first bytes some = ap (map strip_carriage_return) (split_once is_line_feed bytes some)

-- the same of numbered lines, in the parts that a reader has
pub numbered-first : (number at : ℕ) (bytes front back text : List ℕ) → 0 < length bytes → at ≡ position_or_len is_line_feed bytes → front ≡ take at bytes → back ≡ drop (at + 1) bytes → text ≡ strip_carriage_return front
    → enumerate_from number (lines_of bytes) ≡ (number, text) ∷ enumerate_from (number + 1) (lines_of back)
numbered-first number at bytes front back text some is_at is_front is_back is_text =
    ap (enumerate_from number) (lines_of-first bytes some) ∙ rw (is_text, is_front, is_back, is_at) refl

-- ---- words

-- a piece that is not empty stays
keeps_full : (piece : List ℕ) (pieces : List (List ℕ)) → 0 < length piece → filter has_bytes (piece ∷ pieces) ≡ piece ∷ filter has_bytes pieces
keeps_full [] pieces some = absurd (omega arith)
keeps_full (byte ∷ bytes) pieces some = refl

module _ (p : ℕ → Bool) where
  -- the pieces that are not empty
  abbrev full_pieces : List ℕ → List (List ℕ)
  full_pieces text = filter has_bytes (slice_split p text)

  -- a byte that passes at the front ends an empty piece
  full_pieces-skip : (byte : ℕ) (text : List ℕ) → p byte ≡ true → full_pieces (byte ∷ text) ≡ full_pieces text
  full_pieces-skip byte text passes = ap (filter has_bytes) (slice_split-cons_yes p byte text passes)

  from_word : List ℕ → List ℕ
  from_word text = drop (position_or_len (λ byte. not (p byte)) text) text

  from_word-passes : (byte : ℕ) (text : List ℕ) → p byte ≡ true → from_word (byte ∷ text) ≡ from_word text
  unfolding from_word
  from_word-passes byte text passes = rw (passes, one-add) refl

  from_word-fails : (byte : ℕ) (text : List ℕ) → p byte ≡ false → from_word (byte ∷ text) ≡ byte ∷ text
  unfolding from_word
  from_word-fails byte text fails = rw fails refl

  -- bytes that pass at the front make no piece
  full_pieces-from_word : (text : List ℕ) → full_pieces (from_word text) ≡ full_pieces text
  unfolding from_word
  full_pieces-from_word [] = refl
  full_pieces-from_word (byte ∷ text) =
      elim (cases_Bool (p byte)) [
        | inl passes ↦ ap full_pieces (from_word-passes byte text passes) ∙ full_pieces-from_word text ∙ sym (full_pieces-skip byte text passes)
        | inr fails ↦ ap full_pieces (from_word-fails byte text fails)
      ]

  -- a word begins where the bytes that pass end, if any byte is left
  begins_word : (text : List ℕ) → 0 < length (from_word text) → 0 < position_or_len p (from_word text)
  unfolding from_word
  begins_word [] some = absurd (omega arith)
  begins_word (byte ∷ text) some =
      elim (cases_Bool (p byte)) [
        | inl passes ↦
            let e = from_word-passes byte text passes in
            subst (λ (x : List ℕ). 0 < position_or_len p x) (sym e) (begins_word text (subst (λ (x : List ℕ). 0 < length x) e some))
        | inr fails ↦ subst (λ (x : List ℕ). 0 < position_or_len p x) (sym (from_word-fails byte text fails)) (rw fails (omega arith))
      ]

  -- the first of them, and those of the rest
  full_pieces-first : (text : List ℕ) → 0 < length (take (position_or_len p text) text)
      → full_pieces text ≡ take (position_or_len p text) text ∷ full_pieces (drop (position_or_len p text + 1) text)
  full_pieces-first text some =
      elim (cases_lt (position_or_len p text) (length text)) [
        | inl lt ↦ ap (filter has_bytes) (slice_split_first p text 0 lt) ∙ keeps_full (before_first p text) (slice_split p (after_first p text)) some
        | inr le ↦
            let front : take (position_or_len p text) text ≡ text = take_all (position_or_len p text) text le in
            let back : drop (position_or_len p text + 1) text ≡ [] = drop_all (position_or_len p text + 1) text (omega arith) in
            ap (filter has_bytes) (split_whole p text le) ∙ keeps_full text [] (subst (λ (x : List ℕ). 0 < length x) front some) ∙ sym (ap2 (λ (x : List ℕ) (y : List ℕ). x ∷ full_pieces y) front back)
      ]

pub words_of-nil : words_of [] ≡ []
unfolding words_of
words_of-nil = refl

-- the words of a text are those from its first word on
pub words_of-from_word : (text : List ℕ) → words_of (drop (position_or_len is_in_word text) text) ≡ words_of text
unfolding words_of from_word
words_of-from_word text = full_pieces-from_word is_blank text

-- the first word, and the words of the rest
pub words_of-first : (text : List ℕ) → 0 < length (take (position_or_len is_blank text) text)
    → words_of text ≡ take (position_or_len is_blank text) text ∷ words_of (drop (position_or_len is_blank text + 1) text)
unfolding words_of
words_of-first text some = full_pieces-first is_blank text some

-- the same in the parts that a reader has
pub next_word : (rest text front back : List ℕ) (at : ℕ) → text ≡ drop (position_or_len is_in_word rest) rest → at ≡ position_or_len is_blank text → front ≡ take at text → back ≡ drop (at + 1) text → 0 < length front
    → words_of rest ≡ front ∷ words_of back
next_word rest text front back at is_text is_at is_front is_back some =
    let here : words_of text ≡ take (position_or_len is_blank text) text ∷ words_of (drop (position_or_len is_blank text + 1) text) = words_of-first text (subst (λ (x : List ℕ). 0 < length x) (is_front ∙ ap (λ (n : ℕ). take n text) is_at) some) in
    sym (words_of-from_word rest) ∙ ap words_of (sym is_text) ∙ here ∙ sym (ap2 (λ (x : List ℕ) (y : List ℕ). x ∷ words_of y) (is_front ∙ ap (λ (n : ℕ). take n text) is_at) (is_back ∙ ap (λ (n : ℕ). drop (n + 1) text) is_at))

-- where no word begins, no word is left
pub no_word : (rest text front : List ℕ) (at : ℕ) → text ≡ drop (position_or_len is_in_word rest) rest → at ≡ position_or_len is_blank text → front ≡ take at text → length front ≡ 0 → words_of rest ≡ []
unfolding from_word
no_word rest text front at is_text is_at is_front none =
    let empty : from_word is_blank rest ≡ [] = elim (cases_lt 0 (length (from_word is_blank rest))) [
      | inl some ↦
          let begins : 0 < position_or_len is_blank text = subst (λ (x : List ℕ). 0 < position_or_len is_blank x) (sym is_text) (begins_word is_blank rest some) in
          absurd (omega (arith, begins, is_at, length-take at text, ap length is_front, none, ap length is_text, some))
      | inr le ↦ nil_from_length (from_word is_blank rest) (omega arith)
    ] in
    sym (words_of-from_word rest) ∙ ap words_of empty ∙ words_of-nil

-- a text has words where a byte of one stands in it
pub has_words : (text : List ℕ) → nat_lt 0 (length (words_of text)) ≡ nat_lt (position_or_len is_in_word text) (length text)
unfolding from_word
has_words text =
    let rest : List ℕ = from_word is_blank text in
    let left = length-drop (position_or_len is_in_word text) text in
    elim (cases_lt (position_or_len is_in_word text) (length text)) [
      | inl lt ↦
          let some : 0 < length rest = omega (arith, left) in
          let first = words_of-first rest (omega (arith, length-take (position_or_len is_blank rest) rest, begins_word is_blank text some)) in
          ap (λ (words : List (List ℕ)). nat_lt 0 (length words)) (sym (words_of-from_word text) ∙ first) ∙ lt-ltb 0 _ (omega arith) ∙ sym (lt-ltb _ _ lt)
      | inr le ↦
          ap (λ (words : List (List ℕ)). nat_lt 0 (length words)) (sym (words_of-from_word text) ∙ ap words_of (nil_from_length rest (omega (arith, left))) ∙ words_of-nil) ∙ sym (le-ltb _ _ le)
    ]
