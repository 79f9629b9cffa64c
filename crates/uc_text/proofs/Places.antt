-- The number that digits stand for, one digit after the other.
use Rattle.std.proofs.Common.{◌≡◌, ℕ, zero, suc, ◌+◌, ◌*◌, ◌^◌, ◌<◌, ◌≤◌, true, false, cond, List, [], ◌∷◌, ◌++◌, length, take, get_or, refl, sym, ap, ◌∙◌, add-one, pow-suc, mul-le-mul_left, nat_lt, Some, None, arith}
use Rattle.std.specs.Char.{digit_value, is_digit}
use Rattle.std.specs.List.{list_all, AllPass}
use Rattle.std.proofs.Math.Nat.{pow-zero, pow-le-pow_right}
use Rattle.std.proofs.lemmas.Bool.{false_from_ne_true, ltb-true, lt-ltb, le-ltb, and_right, and_from, cond-true, cond-false, cond_both}
use Rattle.std.proofs.lemmas.List.Elements.{All-from_get_or}
use Rattle.std.proofs.lemmas.List.Sums.{AllPass-from_list_all, list_all-from_AllPass}
use Rattle.std.proofs.lemmas.List.{length_push, length-take, take_more}
use Rattle.uc_text.specs.Numbers.{place_value, are_digits, spelled_in, below}

-- one more digit at the end
pub place_value-push : (radix : ℕ) (digits : List ℕ) (digit : ℕ) → place_value radix (digits ++ digit ∷ []) ≡ place_value radix digits * radix + digit_value digit
place_value-push radix [] digit = rw (pow-zero radix) (omega arith)
place_value-push radix (first ∷ digits) digit =
    let rest = place_value-push radix digits digit in
    let longer : radix ^ length (digits ++ digit ∷ []) ≡ radix ^ length digits * radix = ap (λ (n : ℕ). radix ^ n) (length_push digits digit ∙ add-one (length digits)) ∙ pow-suc radix (length digits) in
    rw (longer, rest) (grind arith)

-- a front of the digits makes no greater number
pub place_value-grows : (radix : ℕ) (digits : List ℕ) (n : ℕ) → 0 < radix → place_value radix (take n digits) ≤ place_value radix digits
place_value-grows radix digits zero some = omega arith
place_value-grows radix [] (suc n) some = omega arith
place_value-grows radix (first ∷ digits) (suc n) some =
    let rest = place_value-grows radix digits n some in
    let shorter : length (take n digits) ≤ length digits = omega (arith, length-take n digits) in
    let weight : radix ^ length (take n digits) ≤ radix ^ length digits = pow-le-pow_right some shorter in
    omega (arith, rest, mul-le-mul_left (digit_value first) weight)

-- a text with a byte that is no digit spells nothing
pub no_digits : (radix : ℕ) (text : List ℕ) (i : ℕ) → i < length text → radix ≤ digit_value (get_or text i 0) → below (2 ^ 64) (spelled_in radix text) ≡ None
no_digits radix text i lt other =
    let fails : list_all (λ byte. is_digit byte radix) text ≡ false = false_from_ne_true _ (λ e. absurd (omega (arith, ltb-true (digit_value (get_or text i 0)) radix (AllPass-from_list_all (λ byte. is_digit byte radix) text e i 0 lt), other))) in
    ap (λ b. below (2 ^ 64) (cond b (Some (place_value radix text)) None)) (and_right (nat_lt 0 (length text)) _ fails)

-- the empty text spells nothing
pub no_text : (radix : ℕ) (text : List ℕ) → length text ≡ 0 → below (2 ^ 64) (spelled_in radix text) ≡ None
no_text radix [] none = refl
no_text radix (byte ∷ text) none = absurd (omega arith)

-- digits whose front is too great spell nothing of 64 bits
pub too_great : (radix : ℕ) (text : List ℕ) (n : ℕ) → 0 < radix → 2 ^ 64 ≤ place_value radix (take n text) → below (2 ^ 64) (spelled_in radix text) ≡ None
too_great radix text n some great =
    let none : below (2 ^ 64) (Some (place_value radix text)) ≡ None = cond-false _ _ _ (le-ltb (place_value radix text) (2 ^ 64) (omega (arith, great, place_value-grows radix text n some))) in
    cond_both (are_digits radix text) (Some (place_value radix text)) None (λ o. below (2 ^ 64) o ≡ None) (λ _. none) (λ _. refl)

-- digits alone spell their number
pub all_digits : (radix : ℕ) (text : List ℕ) (value : ℕ) → 0 < length text → ((k : ℕ) → k < length text → digit_value (get_or text k 0) < radix) → value ≡ place_value radix text → value < 2 ^ 64
    → below (2 ^ 64) (spelled_in radix text) ≡ Some value
all_digits radix text value some digits is small =
    let passes : AllPass (λ byte. is_digit byte radix) text = All-from_get_or (λ byte. is_digit byte radix ≡ true) text 0 (λ k lt. lt-ltb _ _ (digits k lt)) in
    let are : are_digits radix text ≡ true = and_from (nat_lt 0 (length text)) (list_all (λ byte. is_digit byte radix) text) (lt-ltb 0 (length text) some) (list_all-from_AllPass (λ byte. is_digit byte radix) text passes) in
    ap (λ b. below (2 ^ 64) (cond b (Some (place_value radix text)) None)) are
    ∙ cond-true _ _ _ (lt-ltb (place_value radix text) (2 ^ 64) (omega (arith, is, small))) ∙ ap Some (sym is)

-- one more digit of a text
pub place_value-more : (radix : ℕ) (text : List ℕ) (i value : ℕ) → i < length text → value ≡ place_value radix (take i text) → place_value radix (take (i + 1) text) ≡ value * radix + digit_value (get_or text i 0)
place_value-more radix text i value lt is =
    ap (place_value radix) (take_more text i 0 lt) ∙ place_value-push radix (take i text) (get_or text i 0) ∙ ap (λ (n : ℕ). n * radix + digit_value (get_or text i 0)) (sym is)
