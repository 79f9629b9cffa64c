-- Words that are one byte and the decimal digits of a number.
use Rattle.std.proofs.Common.{◌≡◌, ℕ, zero, suc, ◌+◌, ◌<◌, ◌≤◌, ◌^◌, Bool, true, false, List, [], ◌∷◌, length, take, drop, ◌-◌, get_or, add-zero, nat_lt, nat_eq, Some, None, refl, sym, ap, subst, ◌∙◌, inl, inr, arith, codes, cond}
use Rattle.std.specs.Prelude.{slice_index}
use Rattle.std.specs.Char.{digit_value, is_digit}
use Rattle.std.specs.List.{AllPass, list_all, position_or_len, starts_with}
use Rattle.std.proofs.lemmas.Bool.{cases_Bool, and_parts, ltb-true, lt-ltb, and_from, cond-true}
use Rattle.std.proofs.lemmas.Bool.Decides.{nat_tests}
use Rattle.std.proofs.lemmas.List.{length-take, length-drop, take_all, drop-drop, get_or-take, get_or-drop}
use Rattle.std.proofs.lemmas.List.Elements.{All-from_get_or}
use Rattle.std.proofs.lemmas.List.Sums.{AllPass-from_list_all, list_all-from_AllPass, position_or_len_is}
use Rattle.uc_text.specs.Lines.{is_blank, words_of}
use Rattle.uc_text.specs.Numbers.{are_digits, below, number_of, place_value, spelled, spelled_in}
use Rattle.uc_text.proofs.Pieces.{words_of-first}

-- digits alone spell their number
pub digits_spell : (radix : ℕ) (text : List ℕ) (value : ℕ) → 0 < length text → ((k : ℕ) → k < length text → digit_value (get_or text k 0) < radix) → value ≡ place_value radix text
    → spelled_in radix text ≡ Some value
digits_spell radix text value some digits is =
    let passes : AllPass (λ byte. is_digit byte radix) text = All-from_get_or (λ byte. is_digit byte radix ≡ true) text 0 (λ k lt. lt-ltb _ _ (digits k lt)) in
    let are : are_digits radix text ≡ true = and_from (nat_lt 0 (length text)) (list_all (λ byte. is_digit byte radix) text) (lt-ltb 0 (length text) some) (list_all-from_AllPass (λ byte. is_digit byte radix) text passes) in
    cond-true _ _ _ are ∙ ap Some (sym is)

-- digits at the front of a text
pub digits_taken : (text : List ℕ) (at count value : ℕ) → count ≡ at → 0 < count → at ≤ length text → ((k : ℕ) → k < at → digit_value (get_or text k 0) < 10) → value ≡ place_value 10 (take at text)
    → (count ≤ length text) × (spelled_in 10 (take count text) ≡ Some value)
digits_taken text at count value same some inside digits is =
    let long : length (take at text) ≡ at = omega (arith, length-take at text) in
    let spells : spelled_in 10 (take at text) ≡ Some value =
    digits_spell 10 (take at text) value (omega arith) (λ k lt. subst (λ (digit : ℕ). digit_value digit < 10) (sym (get_or-take at text k 0 (omega arith))) (digits k (omega arith))) is in
    (omega arith, ap (λ (n : ℕ). spelled_in 10 (take n text)) same ∙ spells)

-- what spells a number is digits
are_digits-spelled : (text : List ℕ) (value : ℕ) → spelled_in 10 text ≡ Some value → are_digits 10 text ≡ true
are_digits-spelled text value is =
    elim (cases_Bool (are_digits 10 text)) [
      | inl are ↦ are
      | inr fail ↦
          let none : spelled_in 10 text ≡ None = ap (λ (b : Bool). cond b (Some (place_value 10 text)) None) fail in
          absurd cc
    ]

digit_is : (byte : ℕ) → is_digit byte 10 ≡ true → (48 ≤ byte) × (byte < 58)
digit_is byte is = let small = ltb-true (digit_value byte) 10 is in (grind (arith, nat_tests), grind (arith, nat_tests))

-- a digit is no blank
not_blank : (byte : ℕ) → is_digit byte 10 ≡ true → is_blank byte ≡ false
not_blank byte is = let range = digit_is byte is in grind (arith, nat_tests)

-- digits do not begin with `0x`
not_prefixed : (text : List ℕ) → list_all (λ byte. is_digit byte 10) text ≡ true → starts_with nat_eq text (codes "0x") ≡ false
not_prefixed [] digits = refl
not_prefixed (first ∷ []) digits = grind (arith, nat_tests)
not_prefixed (first ∷ second ∷ text) digits =
    let here = digit_is second (and_parts _ _ ((and_parts (is_digit first 10) _ digits).1)).0 in
    grind (arith, nat_tests)

-- digits whose number is small spell it
pub digits_number : (text : List ℕ) (value : ℕ) → spelled_in 10 text ≡ Some value → value < 2 ^ 32 → number_of text ≡ Some value
unfolding spelled
digits_number text value is small =
    let digits = (and_parts (nat_lt 0 (length text)) _ (are_digits-spelled text value is)).1 in
    ap (λ (b : Bool). below (2 ^ 64) (cond b (spelled_in 16 (drop 2 text)) (spelled_in 10 text))) (not_prefixed text digits)
    ∙ ap (below (2 ^ 64)) is
    ∙ cond-true _ _ _ (lt-ltb value (2 ^ 64) (omega arith))

-- the byte at a place of a marked word is no blank
in_marked : (mark count : ℕ) (text : List ℕ) → is_blank mark ≡ false → count ≤ length text → list_all (λ byte. is_digit byte 10) (take count text) ≡ true
    → (k : ℕ) → k < suc count → is_blank (get_or (mark ∷ text) k 0) ≡ false
in_marked mark count text other inside digits zero lt = other
in_marked mark count text other inside digits (suc k) lt =
    let below : k < count = omega arith in
    let passes = AllPass-from_list_all (λ byte. is_digit byte 10) (take count text) digits k 0 (omega (arith, length-take count text)) in
    not_blank (get_or text k 0) (subst (λ (byte : ℕ). is_digit byte 10 ≡ true) (get_or-take count text k 0 below) passes)

-- a byte and digits behind it, up to a blank or the end, are the first word
pub marked_word : (mark count number : ℕ) (text back : List ℕ) → is_blank mark ≡ false → count ≤ length text → spelled_in 10 (take count text) ≡ Some number → number < 2 ^ 32
    → (0 < length (drop count text) → is_blank (slice_index (drop count text) 0) ≡ true) → back ≡ drop 1 (drop count text)
    → (digits : List ℕ) × (words_of (mark ∷ text) ≡ (mark ∷ digits) ∷ words_of back) × (number_of digits ≡ Some number)
marked_word mark count number text back other inside spells small ends is_back =
    let digits = (and_parts (nat_lt 0 (length (take count text))) _ (are_digits-spelled (take count text) number spells)).1 in
    let at : position_or_len is_blank (mark ∷ text) ≡ suc count =
    position_or_len_is is_blank (mark ∷ text) (suc count) 0 (omega arith) (in_marked mark count text other inside digits)
    (λ lt. subst (λ (byte : ℕ). is_blank byte ≡ true) (get_or-drop count text 0 0 ∙ ap (λ (n : ℕ). get_or text n 0) (add-zero count)) (ends (omega (arith, length-drop count text)))) in
    let pos : ℕ = position_or_len is_blank (mark ∷ text) in
    let front : take pos (mark ∷ text) ≡ mark ∷ take count text = ap (λ (n : ℕ). take n (mark ∷ text)) at in
    let next : pos + 1 ≡ suc (count + 1) = omega (arith, at) in
    let behind : drop (pos + 1) (mark ∷ text) ≡ back = ap (λ (n : ℕ). drop n (mark ∷ text)) next ∙ sym (drop-drop 1 count text) ∙ sym is_back in
    let first : words_of (mark ∷ text) ≡ take pos (mark ∷ text) ∷ words_of (drop (pos + 1) (mark ∷ text)) =
    words_of-first (mark ∷ text) (subst (λ (word : List ℕ). 0 < length word) (sym front) (omega arith)) in
    (take count text, first ∙ (λ i. front i ∷ words_of (behind i)), digits_number (take count text) number spells small)

-- the same of the bytes that are left, in the parts that a reader has
pub first_marked : (rest text after back : List ℕ) (words : List (List ℕ)) (count number : ℕ) → words_of rest ≡ words → 1 ≤ length rest → text ≡ take (length rest - 1) (drop 1 rest) → is_blank (get_or rest 0 0) ≡ false
    → count ≤ length text → spelled_in 10 (take count text) ≡ Some number → number < 2 ^ 32 → after ≡ drop count text → (0 < length after → is_blank (slice_index after 0) ≡ true) → back ≡ drop 1 after
    → (digits : List ℕ) × (words ≡ (get_or rest 0 0 ∷ digits) ∷ words_of back) × (number_of digits ≡ Some number)
first_marked [] text after back words count number view some is_text other inside spells small is_after ends is_back = absurd (omega arith)
first_marked (mark ∷ tail) text after back words count number view some is_text other inside spells small is_after ends is_back =
    let whole : text ≡ tail = is_text ∙ take_all (length (mark ∷ tail) - 1) tail (omega arith) in
    let found = marked_word mark count number text back other inside spells small (subst (λ (bytes : List ℕ). 0 < length bytes → is_blank (slice_index bytes 0) ≡ true) is_after ends) (is_back ∙ ap (drop 1) is_after) in
    (found.0, sym view ∙ ap (λ (bytes : List ℕ). words_of (mark ∷ bytes)) (sym whole) ∙ found.1, found.2)
