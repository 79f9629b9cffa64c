-- Words that are a byte and one to three digits.
use Rattle.std.proofs.Common.{◌≡◌, ℕ, ◌+◌, ◌-◌, ◌*◌, ◌<◌, ◌≤◌, ◌^◌, Bool, true, false, ◌&&◌, List, [], ◌∷◌, ◌++◌, length, take, drop, filter, get_or, Some, None, refl, sym, ap, ◌∙◌, arith, nat_eq, nat_lt, nat_le, not, codes, cond, append-nil}
use Rattle.std.specs.Char.{digit_value, is_digit}
use Rattle.std.specs.List.{All, onto_first, slice_split, starts_with}
use Rattle.std.specs.Prelude.{◌==◌}
use Rattle.std.specs.Str.{bytes_eq}
use Rattle.std.proofs.lemmas.Bool.{lt-ltb, cond-true, and_from, and_right}
use Rattle.std.proofs.lemmas.Bool.Decides.{nat_tests}
use Rattle.std.proofs.lemmas.List.{take_all, length-drop}
use Rattle.std.proofs.lemmas.List.Elements.{All-cons, All-nil}
use Rattle.std.proofs.lemmas.List.Splits.{slice_split_at, slice_split_none, slice_split-cons_no, length-slice_split}
use Rattle.std.proofs.lemmas.Str.{digit_value_digit}
use Rattle.uc_text.specs.Lines.{is_blank, has_bytes, words_of}
use Rattle.uc_text.specs.Numbers.{are_digits, below, number_of, place_value, spelled, spelled_in}
use Rattle.rendezvous_steps.specs.declared.ends.Beat.{Beat}
use Rattle.script_text.specs.declared.forms.Limits.{Limits}
use Rattle.script_text.specs.Forms.{have_form, is_number, takes_the_rest}
use Rattle.uc_script.proofs.Words.{end_alone}
use Rattle.uc_script.proofs.FirstLines.{IsPlain, first_line-cons, after_line-cons, first_line-append, after_line-append, first_line-feed, after_line-feed}
use Rattle.uc_script.specs.FirstLine.{first_line, after_line, left_words, left_text}
use Rattle.uc_script.specs.Schedules.{IsFirstBeat, IsLineOfBeats}
use Rattle.uc_script.specs.Shorts.{EndsWord, IsFirstShort, is_mark}

-- a piece that is not empty stays
keeps : (piece : List ℕ) (pieces : List (List ℕ)) → 0 < length piece → filter has_bytes (piece ∷ pieces) ≡ piece ∷ filter has_bytes pieces
keeps [] pieces some = absurd (omega arith)
keeps (byte ∷ bytes) pieces some = refl

of_digit : (byte : ℕ) → 48 ≤ byte → byte ≤ 57 → digit_value byte + 48 ≡ byte
of_digit byte low high = digit_value_digit byte (grind arith)

digit : (byte : ℕ) → 48 ≤ byte → byte ≤ 57 → is_digit byte 10 ≡ true
digit byte low high = lt-ltb (digit_value byte) 10 (omega (arith, of_digit byte low high))

-- digits spell the number that their places come to
of_places : (text : List ℕ) (value : ℕ) → starts_with nat_eq text (codes "0x") ≡ false → are_digits 10 text ≡ true → place_value 10 text ≡ value → value < 2 ^ 64 → number_of text ≡ Some value
unfolding spelled
of_places text value plain digits is small =
    ap (λ (b : Bool). below (2 ^ 64) (cond b (spelled_in 16 (drop 2 text)) (spelled_in 10 text))) plain
    ∙ ap (λ (b : Bool). below (2 ^ 64) (cond b (Some (place_value 10 text)) None)) digits
    ∙ ap (λ (n : ℕ). below (2 ^ 64) (Some n)) is
    ∙ cond-true _ _ _ (lt-ltb value (2 ^ 64) small)

module _ (a m : ℕ) (low_a : 48 ≤ a) (high_a : a ≤ 57) (is_a : m + 48 ≡ a) where
  number_of_one : number_of (a ∷ []) ≡ Some m
  number_of_one = of_places (a ∷ []) m (grind (arith, nat_tests)) (and_from (is_digit a 10) true (digit a low_a high_a) refl) (omega (arith, of_digit a low_a high_a)) (omega arith)

  module _ (b n : ℕ) (low_b : 48 ≤ b) (high_b : b ≤ 57) (is_b : n + 48 ≡ b) where
    number_of_two : number_of (a ∷ b ∷ []) ≡ Some (m * 10 + n)
    number_of_two =
        of_places (a ∷ b ∷ []) (m * 10 + n) (grind (arith, nat_tests)) (and_from (is_digit a 10) _ (digit a low_a high_a) (and_from (is_digit b 10) true (digit b low_b high_b) refl))
        (omega (arith, of_digit a low_a high_a, of_digit b low_b high_b)) (omega arith)

    module _ (c k : ℕ) (low_c : 48 ≤ c) (high_c : c ≤ 57) (is_c : k + 48 ≡ c) where
      number_of_three : number_of (a ∷ b ∷ c ∷ []) ≡ Some ((m * 10 + n) * 10 + k)
      number_of_three =
          of_places (a ∷ b ∷ c ∷ []) ((m * 10 + n) * 10 + k) (grind (arith, nat_tests))
          (and_from (is_digit a 10) _ (digit a low_a high_a) (and_from (is_digit b 10) _ (digit b low_b high_b) (and_from (is_digit c 10) true (digit c low_c high_c) refl)))
          (omega (arith, of_digit a low_a high_a, of_digit b low_b high_b, of_digit c low_c high_c)) (omega arith)

-- ---- words of one, two and three digits, in the parts that a reader has

-- a byte of a word, which ends no line
abbrev IsOfWord : ℕ → Type 0
IsOfWord byte = (is_blank byte ≡ false) × IsPlain byte

of_word : (byte : ℕ) → 48 ≤ byte → byte ≤ 57 → IsOfWord byte
of_word byte low high = (grind (arith, nat_tests), (grind (arith, nat_tests), grind (arith, nat_tests)))

of_mark : (byte : ℕ) → is_mark byte ≡ true → IsOfWord byte
of_mark byte is = (grind (arith, nat_tests), (grind (arith, nat_tests), grind (arith, nat_tests)))

blank_plain : (byte : ℕ) → is_blank byte ≡ true → IsPlain byte
blank_plain byte is = (grind (arith, nat_tests), grind (arith, nat_tests))

-- the word that ends before a byte is the first of its line, and this is left
left_after : (word : List ℕ) (byte : ℕ) (rest : List ℕ) (is_last : Bool) → 0 < length word → All IsOfWord word → EndsWord byte is_last
    → words_of (first_line (word ++ byte ∷ rest)) ≡ word ∷ left_words rest is_last
unfolding words_of
left_after word byte rest true some all ends =
    ap words_of (first_line-append word (byte ∷ rest) (λ k d lt. (all k d lt).1) ∙ ap (λ (l : List ℕ). word ++ l) (first_line-feed byte rest ends) ∙ append-nil word)
    ∙ ap (filter has_bytes) (slice_split_none is_blank word (λ k d lt. (all k d lt).0)) ∙ keeps word [] some
left_after word byte rest false some all ends =
    ap words_of (first_line-append word (byte ∷ rest) (λ k d lt. (all k d lt).1) ∙ ap (λ (l : List ℕ). word ++ l) (first_line-cons byte rest (blank_plain byte ends)))
    ∙ ap (filter has_bytes) (slice_split_at is_blank word byte (first_line rest) (λ k d lt. (all k d lt).0) ends) ∙ keeps word (slice_split is_blank (first_line rest)) some

text_after : (word : List ℕ) (byte : ℕ) (rest : List ℕ) (is_last : Bool) → All IsOfWord word → EndsWord byte is_last → after_line (word ++ byte ∷ rest) ≡ left_text rest is_last
text_after word byte rest true all ends = after_line-append word (byte ∷ rest) (λ k d lt. (all k d lt).1) ∙ after_line-feed byte rest ends
text_after word byte rest false all ends = after_line-append word (byte ∷ rest) (λ k d lt. (all k d lt).1) ∙ after_line-cons byte rest (blank_plain byte ends)

-- a text that begins with a word, and a byte that ends it
short : (text : List ℕ) (mark : ℕ) (digits : List ℕ) (byte : ℕ) (rest : List ℕ) (is_last : Bool) (number : ℕ) → text ≡ (mark ∷ digits) ++ byte ∷ rest → All IsOfWord digits → EndsWord byte is_last → number_of digits ≡ Some number
    → is_mark mark ≡ true → IsFirstShort text mark number rest is_last
short text mark digits byte rest is_last number is others ends spelled marks =
    let all = All-cons IsOfWord mark digits (of_mark mark marks) others in record {
      digits = digits;
      words = ap (λ (t : List ℕ). words_of (first_line t)) is ∙ left_after (mark ∷ digits) byte rest is_last (omega arith) all ends;
      spelled = spelled;
      after = ap after_line is ∙ text_after (mark ∷ digits) byte rest is_last all ends;
      first = ap (λ (t : List ℕ). get_or (first_line t) 0 0) is ∙ ap (λ (l : List ℕ). get_or l 0 0) (first_line-append (mark ∷ digits) (byte ∷ rest) (λ k d lt. (all k d lt).1));
    }

one_byte : (byte : ℕ) → IsOfWord byte → All IsOfWord (byte ∷ [])
one_byte byte is = All-cons IsOfWord byte [] is (All-nil IsOfWord)

-- what is left of a text from a place on
left_is : (text after : List ℕ) (n : ℕ) → after ≡ take (length text - n) (drop n text) → after ≡ drop n text
left_is text after n is = is ∙ take_all (length text - n) (drop n text) (omega (arith, length-drop n text))

first_is : (text : List ℕ) → 1 ≤ length text → text ≡ get_or text 0 0 ∷ drop 1 text
first_is [] some = absurd (omega arith)
first_is (byte ∷ text) some = refl

first_three : (text : List ℕ) → 3 ≤ length text → text ≡ get_or text 0 0 ∷ get_or text 1 0 ∷ get_or text 2 0 ∷ drop 3 text
first_three [] some = absurd (omega arith)
first_three (byte ∷ []) some = absurd (omega arith)
first_three (byte ∷ next ∷ []) some = absurd (omega arith)
first_three (byte ∷ next ∷ third ∷ text) some = refl

-- a byte, a digit and one more byte: these are the bytes that are left
pub record IsBegun (text left : List ℕ) (m : ℕ) : Type 0 where
  pub some : 3 ≤ length text
  pub rest : left ≡ take (length text - 3) (drop 3 text)
  pub low : 48 ≤ get_or text 1 0
  pub high : get_or text 1 0 ≤ 57
  pub is : m + 48 ≡ get_or text 1 0

-- a byte is one more digit, and one more follows
pub record IsDigit (byte : ℕ) (text left : List ℕ) (n : ℕ) : Type 0 where
  pub some : 1 ≤ length text
  pub rest : left ≡ take (length text - 1) (drop 1 text)
  pub low : 48 ≤ byte
  pub high : byte ≤ 57
  pub is : n + 48 ≡ byte

begun_is : (text left : List ℕ) (m : ℕ) → IsBegun text left m → text ≡ get_or text 0 0 ∷ get_or text 1 0 ∷ get_or text 2 0 ∷ left
begun_is text left m begun = first_three text begun.some ∙ ap (λ (t : List ℕ). get_or text 0 0 ∷ get_or text 1 0 ∷ get_or text 2 0 ∷ t) (sym (left_is text left 3 begun.rest))

then_is : (byte : ℕ) (text left : List ℕ) (n : ℕ) → IsDigit byte text left n → text ≡ get_or text 0 0 ∷ left
then_is byte text left n one = first_is text one.some ∙ ap (λ (t : List ℕ). get_or text 0 0 ∷ t) (sym (left_is text left 1 one.rest))

pub short_one : (text left : List ℕ) (m : ℕ) (is_last : Bool) → IsBegun text left m → EndsWord (get_or text 2 0) is_last → is_mark (get_or text 0 0) ≡ true → IsFirstShort text (get_or text 0 0) m left is_last
short_one text left m is_last begun ends marks =
    short text (get_or text 0 0) (get_or text 1 0 ∷ []) (get_or text 2 0) left is_last m (begun_is text left m begun) (one_byte (get_or text 1 0) (of_word (get_or text 1 0) begun.low begun.high)) ends
    (number_of_one (get_or text 1 0) m begun.low begun.high begun.is) marks

pub short_two : (text left left_2 : List ℕ) (m n : ℕ) (is_last : Bool) → IsBegun text left m → IsDigit (get_or text 2 0) left left_2 n → EndsWord (get_or left 0 0) is_last → is_mark (get_or text 0 0) ≡ true
    → IsFirstShort text (get_or text 0 0) (m * 10 + n) left_2 is_last
short_two text left left_2 m n is_last begun two ends marks =
    let is : text ≡ get_or text 0 0 ∷ get_or text 1 0 ∷ get_or text 2 0 ∷ get_or left 0 0 ∷ left_2 =
    begun_is text left m begun ∙ ap (λ (t : List ℕ). get_or text 0 0 ∷ get_or text 1 0 ∷ get_or text 2 0 ∷ t) (then_is (get_or text 2 0) left left_2 n two) in
    let others = All-cons IsOfWord (get_or text 1 0) (get_or text 2 0 ∷ []) (of_word (get_or text 1 0) begun.low begun.high) (one_byte (get_or text 2 0) (of_word (get_or text 2 0) two.low two.high)) in
    short text (get_or text 0 0) (get_or text 1 0 ∷ get_or text 2 0 ∷ []) (get_or left 0 0) left_2 is_last (m * 10 + n) is others ends
    (number_of_two (get_or text 1 0) m begun.low begun.high begun.is (get_or text 2 0) n two.low two.high two.is) marks

pub short_three : (text left left_2 left_3 : List ℕ) (m n k : ℕ) (is_last : Bool) → IsBegun text left m → IsDigit (get_or text 2 0) left left_2 n → IsDigit (get_or left 0 0) left_2 left_3 k → EndsWord (get_or left_2 0 0) is_last
    → is_mark (get_or text 0 0) ≡ true → IsFirstShort text (get_or text 0 0) ((m * 10 + n) * 10 + k) left_3 is_last
short_three text left left_2 left_3 m n k is_last begun two three ends marks =
    let is : text ≡ get_or text 0 0 ∷ get_or text 1 0 ∷ get_or text 2 0 ∷ get_or left 0 0 ∷ get_or left_2 0 0 ∷ left_3 =
    begun_is text left m begun
    ∙ ap (λ (t : List ℕ). get_or text 0 0 ∷ get_or text 1 0 ∷ get_or text 2 0 ∷ t) (then_is (get_or text 2 0) left left_2 n two ∙ ap (λ (t : List ℕ). get_or left 0 0 ∷ t) (then_is (get_or left 0 0) left_2 left_3 k three)) in
    let third = one_byte (get_or left 0 0) (of_word (get_or left 0 0) three.low three.high) in
    let others = All-cons IsOfWord (get_or text 1 0) (get_or text 2 0 ∷ get_or left 0 0 ∷ []) (of_word (get_or text 1 0) begun.low begun.high)
    (All-cons IsOfWord (get_or text 2 0) (get_or left 0 0 ∷ []) (of_word (get_or text 2 0) two.low two.high) third) in
    short text (get_or text 0 0) (get_or text 1 0 ∷ get_or text 2 0 ∷ get_or left 0 0 ∷ []) (get_or left_2 0 0) left_3 is_last ((m * 10 + n) * 10 + k) is others ends
    (number_of_three (get_or text 1 0) m begun.low begun.high begun.is (get_or text 2 0) n two.low two.high two.is (get_or left 0 0) k three.low three.high three.is) marks

-- ---- forms that begin with a small letter

-- the first part of a text that begins with no blank begins with its first byte
first_part : (byte : ℕ) (parts : List (List ℕ)) → 1 ≤ length parts → filter has_bytes (onto_first byte parts) ≡ (byte ∷ get_or parts 0 []) ∷ filter has_bytes (drop 1 parts)
first_part byte [] some = absurd (omega arith)
first_part byte (part ∷ parts) some = refl

-- the first word of a text that begins with no blank begins with its first byte
first_word : (byte : ℕ) (text : List ℕ) → is_blank byte ≡ false → (word : List ℕ) × (rest : List (List ℕ)) × (words_of (byte ∷ text) ≡ (byte ∷ word) ∷ rest)
unfolding words_of
first_word byte text plain =
    let parts : List (List ℕ) = slice_split is_blank text in
    (get_or parts 0 [], filter has_bytes (drop 1 parts), ap (filter has_bytes) (slice_split-cons_no is_blank byte text plain) ∙ first_part byte parts (omega (arith, length-slice_split is_blank text)))

module _ (letter : ℕ) (low : 97 ≤ letter) (high : letter ≤ 122) where
  -- a word of a form that begins with a small letter stands for itself
  stands_for_itself : (word : List ℕ) → (takes_the_rest (letter ∷ word) ≡ false) × (is_number (letter ∷ word) ≡ false)
  stands_for_itself word =
      let no_names : nat_eq letter 78 ≡ false = grind (arith, nat_tests) in
      let no_bracket : nat_eq letter 91 ≡ false = grind (arith, nat_tests) in
      let no_beats : nat_eq letter 66 ≡ false = grind (arith, nat_tests) in
      let no_capital : nat_le letter 90 ≡ false = grind (arith, nat_tests) in
      (rw no_names (rw no_bracket (rw no_beats refl)), and_right (nat_le 65 letter) (nat_le letter 90) no_capital)

  -- a text that begins with another byte, which is no blank, is not of such a form
  begins_apart : (form : List ℕ) (byte : ℕ) (text : List ℕ) → is_blank byte ≡ false → (byte ≡ letter → ⊥) → have_form (words_of (letter ∷ form)) (words_of (byte ∷ text)) ≡ false
  begins_apart form byte text plain other =
      let own = first_word letter form (grind (arith, nat_tests)) in
      let first = first_word byte text plain in
      let differ : nat_eq byte letter ≡ false = grind (arith, nat_tests, other) in
      let itself = stands_for_itself own.0 in
      ap (λ (parts : List (List ℕ)). have_form parts (words_of (byte ∷ text))) own.2
      ∙ ap (have_form ((letter ∷ own.0) ∷ own.1)) first.2
      ∙ rw itself.0 (rw itself.1 (rw differ refl))

-- the same of texts that are not empty
pub begin_apart : (form text : List ℕ) → 1 ≤ length form → 1 ≤ length text → 97 ≤ get_or form 0 0 → get_or form 0 0 ≤ 122 → is_blank (get_or text 0 0) ≡ false → (get_or text 0 0 ≡ get_or form 0 0 → ⊥) → have_form (words_of form) (words_of text) ≡ false
begin_apart [] text some_form some low high plain other = absurd (omega arith)
begin_apart (letter ∷ form) [] some_form some low high plain other = absurd (omega arith)
begin_apart (letter ∷ form) (byte ∷ text) some_form some low high plain other = begins_apart letter low high form byte text plain other

-- a word that begins with another byte than `e` is not `end`
no_end_word : (byte : ℕ) (bytes : List ℕ) → nat_eq byte 101 ≡ false → bytes_eq (byte ∷ bytes) (codes "end") ≡ false
no_end_word byte bytes other = rw other refl

-- a text whose first word states a beat has a line first that counts and ends no load
pub line_of_beats : (limits : Limits) (text : List ℕ) (beat : Beat) (rest : List ℕ) (is_last : Bool) → IsFirstBeat limits text beat rest is_last → IsLineOfBeats text
unfolding words_of
line_of_beats limits [] beat rest is_last found = absurd (omega (arith, ap length found.words))
line_of_beats limits (byte ∷ text) beat rest is_last found =
    let line : List ℕ = first_line (byte ∷ text) in
    let some : nat_lt 0 (length (words_of line)) ≡ true = ap (λ (ws : List (List ℕ)). nat_lt 0 (length ws)) found.words ∙ lt-ltb 0 _ (omega arith) in
    let no_comment : not (get_or line 0 0 == 35) ≡ true = grind (arith, nat_tests, found.first, found.read.0) in record {
      some = omega arith;
      counted = λ number. and_from (nat_lt 0 (length (words_of line))) (not (get_or line 0 0 == 35)) some no_comment;
      no_end = end_alone (words_of line) (left_words rest is_last) (found.mark ∷ found.digits) found.words
          ∙ ap (λ (b : Bool). b && (length (left_words rest is_last) == 0)) (no_end_word found.mark found.digits (grind (arith, nat_tests, found.read.0)));
    }
