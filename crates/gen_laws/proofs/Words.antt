-- Lines that are made of words are read as these words.
use Rattle.std.proofs.Common.{◌≡◌, ℕ, zero, suc, ◌-◌, ◌<◌, ◌≤◌, Bool, true, false, List, [], ◌∷◌, ◌++◌, length, map, refl, sym, ◌∙◌, ap, arith, append_assoc}
use Rattle.std.specs.Prelude.{All, nat_lt, ◌==◌, ◌&&◌, slice_index, filter}
use Rattle.std.specs.List.{list_all, slice_split}
use Rattle.std.specs.Str.Lines.{strip_carriage_return}
use Rattle.std.proofs.lemmas.Bool.{false≢true, ltb-true, ne_eqb}
use Rattle.std.proofs.lemmas.List.Splits.{slice_split_at, slice_split_none, length-slice_split}
use Rattle.uc_text.specs.Lines.{is_line_feed, is_blank, has_bytes, without_empty_last, lines_of, words_of}
use Rattle.uc_gen.specs.Texts.{line_of}

-- a byte of words, neither a control character nor a blank
abbrev pub is_plain : ℕ → Bool
is_plain byte = nat_lt 32 byte

-- a word, and words
abbrev pub is_word : List ℕ → Bool
is_word word = has_bytes word && list_all is_plain word

abbrev pub AreWords : List (List ℕ) → Type 0
AreWords [] = Unit {0}
AreWords (word ∷ words) = (is_word word ≡ true) × AreWords words

-- the bytes of a line of words, without the LF that ends it
abbrev pub body_of : List (List ℕ) → List ℕ
body_of [] = []
body_of (word ∷ []) = word
body_of (word ∷ words) = word ++ 32 ∷ body_of words

line_is : (words : List (List ℕ)) → line_of words ≡ body_of words ++ 10 ∷ []
line_is [] = refl
line_is (word ∷ []) = refl
line_is (word ∷ next ∷ words) =
    ap (λ (l : List ℕ). word ++ 32 ∷ l) (line_is (next ∷ words)) ∙ sym (append_assoc word (32 ∷ body_of (next ∷ words)) (10 ∷ []))

-- ---- bytes

pub and_left : (a b : Bool) → (a && b) ≡ true → a ≡ true
and_left true b both = refl
and_left false b both = both

pub and_right : (a b : Bool) → (a && b) ≡ true → b ≡ true
and_right true b both = both
and_right false b both = absurd (false≢true both)

-- each byte is at least a number
abbrev AreFrom : ℕ → List ℕ → Type 0
AreFrom least [] = Unit {0}
AreFrom least (byte ∷ bytes) = (least ≤ byte) × AreFrom least bytes

plain_from : (bytes : List ℕ) → list_all is_plain bytes ≡ true → AreFrom 33 bytes
plain_from [] plain = tt
plain_from (byte ∷ bytes) plain = (
  omega (arith, ltb-true 32 byte (and_left (is_plain byte) (list_all is_plain bytes) plain)),
  plain_from bytes (and_right (is_plain byte) (list_all is_plain bytes) plain),
)

from_less : (bytes : List ℕ) → AreFrom 33 bytes → AreFrom 32 bytes
from_less [] from = tt
from_less (byte ∷ bytes) from = (omega (arith, from.0), from_less bytes from.1)

from_append : (bytes more : List ℕ) → AreFrom 32 bytes → AreFrom 32 more → AreFrom 32 (bytes ++ more)
from_append [] more from then = then
from_append (byte ∷ bytes) more from then = (from.0, from_append bytes more from.1 then)

word_from : (word : List ℕ) → is_word word ≡ true → AreFrom 33 word
word_from word is = plain_from word (and_right (has_bytes word) (list_all is_plain word) is)

body_from : (words : List (List ℕ)) → AreWords words → AreFrom 32 (body_of words)
body_from [] are = tt
body_from (word ∷ []) are = from_less word (word_from word are.0)
body_from (word ∷ next ∷ words) are =
    from_append word (32 ∷ body_of (next ∷ words)) (from_less word (word_from word are.0)) (omega arith, body_from (next ∷ words) are.1)

-- a number that no byte is
other_at : (least byte : ℕ) (bytes : List ℕ) → AreFrom least bytes → byte < least → All (λ b. (b == byte) ≡ false) bytes
other_at least byte [] from less k d below = absurd (omega (arith, below))
other_at least byte (b ∷ bytes) from less zero d below = ne_eqb b byte (λ same. omega (arith, from.0, less, same))
other_at least byte (b ∷ bytes) from less (suc k) d below = other_at least byte bytes from.1 less k d (omega (arith, below))

no_blank : (bytes : List ℕ) → AreFrom 33 bytes → All (λ b. is_blank b ≡ false) bytes
no_blank bytes from = λ k d below.
    let blank = other_at 33 32 bytes from (omega arith) k d below in
    let tab = other_at 33 9 bytes from (omega arith) k d below in
    rw blank tab

not_at : (bytes : List ℕ) (k : ℕ) → AreFrom 32 bytes → (slice_index bytes k == 13) ≡ false
not_at [] zero from = refl
not_at [] (suc k) from = refl
not_at (byte ∷ bytes) zero from = ne_eqb byte 13 (λ same. omega (arith, from.0, same))
not_at (byte ∷ bytes) (suc k) from = not_at bytes k from.1

keeps_end : (bytes : List ℕ) → AreFrom 32 bytes → strip_carriage_return bytes ≡ bytes
keeps_end bytes from = rw (not_at bytes (length bytes - 1) from) refl

-- ---- lines

without_more : (piece : List ℕ) (pieces : List (List ℕ)) → 0 < length pieces → without_empty_last (piece ∷ pieces) ≡ piece ∷ without_empty_last pieces
without_more piece [] some = absurd (omega (arith, some))
without_more [] (next ∷ more) some = refl
without_more (byte ∷ bytes) (next ∷ more) some = refl

-- the first line of a text that begins with a line of words
pub first_line : (words : List (List ℕ)) (rest : List ℕ) → AreWords words → lines_of (line_of words ++ rest) ≡ body_of words ∷ lines_of rest
unfolding lines_of
first_line words rest are =
    let body : List ℕ = body_of words in
    let from : AreFrom 32 body = body_from words are in
    let whole : line_of words ++ rest ≡ body ++ 10 ∷ rest = ap (λ (l : List ℕ). l ++ rest) (line_is words) ∙ append_assoc body (10 ∷ []) rest in
    let pieces : slice_split is_line_feed (body ++ 10 ∷ rest) ≡ body ∷ slice_split is_line_feed rest =
    slice_split_at is_line_feed body 10 rest (other_at 32 10 body from (omega arith)) refl in
    ap (λ (text : List ℕ). map strip_carriage_return (without_empty_last (slice_split is_line_feed text))) whole
    ∙ ap (λ (l : List (List ℕ)). map strip_carriage_return (without_empty_last l)) pieces
    ∙ ap (map strip_carriage_return) (without_more body (slice_split is_line_feed rest) (omega (arith, length-slice_split is_line_feed rest)))
    ∙ ap (λ (l : List ℕ). l ∷ map strip_carriage_return (without_empty_last (slice_split is_line_feed rest))) (keeps_end body from)

pub no_lines : lines_of [] ≡ []
unfolding lines_of
no_lines = refl

-- ---- words

pub body_words : (words : List (List ℕ)) → AreWords words → words_of (body_of words) ≡ words
unfolding words_of
body_words [] are = refl
body_words (word ∷ []) are =
    let has : has_bytes word ≡ true = and_left (has_bytes word) (list_all is_plain word) are.0 in
    ap (filter has_bytes) (slice_split_none is_blank word (no_blank word (word_from word are.0))) ∙ rw has refl
body_words (word ∷ next ∷ words) are =
    let has : has_bytes word ≡ true = and_left (has_bytes word) (list_all is_plain word) are.0 in
    ap (filter has_bytes) (slice_split_at is_blank word 32 (body_of (next ∷ words)) (no_blank word (word_from word are.0)) refl)
    ∙ rw has (ap (λ (l : List (List ℕ)). word ∷ l) (body_words (next ∷ words) are.1))
