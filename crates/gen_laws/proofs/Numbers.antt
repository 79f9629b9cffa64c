-- The numbers of the generated texts are spelled as words that are read back.
use Rattle.std.proofs.Common.{◌≡◌, inl, inr, ℕ, zero, suc, ◌+◌, ◌^◌, ◌<◌, ◌≤◌, Bool, true, false, List, Option, Some, None, refl, ◌∙◌, ap, subst, arith}
use Rattle.std.specs.Prelude.{◌==◌, ◌&&◌, nat_lt, decimal}
use Rattle.std.specs.Fmt.{digits}
use Rattle.std.specs.List.{list_all, range_with_len}
use Rattle.std.proofs.lemmas.Bool.{false≢true, eqb-true, lt-ltb, ltb-true, cases_lt}
use Rattle.uc_text.specs.Digits.{hex8_of}
use Rattle.uc_text.specs.Numbers.{spelled, below}
use Rattle.gen_laws.proofs.Words.{is_word, and_left, and_right}

-- the number is there, and is this one
abbrev is_number : Option ℕ → ℕ → Bool
is_number None number = false
is_number (Some value) number = value == number

-- a text is a word that spells a number
abbrev spells : List ℕ → ℕ → Bool
spells text number = is_word text && is_number (spelled text) number

number_from : (value : Option ℕ) (number : ℕ) → is_number value number ≡ true → value ≡ Some number
number_from None number is = absurd (false≢true is)
number_from (Some value) number is = ap Some (eqb-true value number is)

-- what holds of each number of a range
pub at_range : (p : ℕ → Bool) (a n k : ℕ) → list_all p (range_with_len a n) ≡ true → a ≤ k → k < a + n → p k ≡ true
at_range p a zero k all from below = absurd (omega (arith, from, below))
at_range p a (suc n) k all from below = elim (cases_lt a k) [
  | inl later ↦ at_range p (a + 1) n k (and_right (p a) (list_all p (range_with_len (a + 1) n)) all) (omega (arith, later)) (omega (arith, below))
  | inr same ↦ subst (λ (m : ℕ). p m ≡ true) (omega (arith, from, same)) (and_left (p a) (list_all p (range_with_len (a + 1) n)) all)
]

-- a number below a limit
pub below_limit : (limit : ℕ) (text : List ℕ) (number : ℕ) → spelled text ≡ Some number → number < limit → below limit (spelled text) ≡ Some number
below_limit limit text number is less = ap (below limit) is ∙ rw (lt-ltb number limit less) refl

-- each in its turn: the numbers of cores and threads, the signatures, the flags, and the one revision
decimals : list_all (λ k. spells (decimal k) k) (range_with_len 0 256) ≡ true
unfolding spelled digits
decimals = refl

signatures : list_all (λ k. spells (hex8_of (0x906e0 + k)) (0x906e0 + k)) (range_with_len 0 16) ≡ true
unfolding spelled hex8_of
signatures = refl

flags : list_all (λ k. spells (hex8_of (2 ^ k)) (2 ^ k)) (range_with_len 0 8) ≡ true
unfolding spelled hex8_of
flags = refl

revision : spells (hex8_of 0x80) 0x80 ≡ true
unfolding spelled hex8_of
revision = refl

-- a word, and the number that it spells
pub record Spells (text : List ℕ) (number : ℕ) : Type 0 where
  pub word : is_word text ≡ true
  pub is_spelled : spelled text ≡ Some number

spells_from : (text : List ℕ) (number : ℕ) → spells text number ≡ true → Spells text number
spells_from text number both = record {
  word = and_left (is_word text) (is_number (spelled text) number) both;
  is_spelled = number_from (spelled text) number (and_right (is_word text) (is_number (spelled text) number) both);
}

pub decimal_spells : (k : ℕ) → k < 256 → Spells (decimal k) k
decimal_spells k less = spells_from (decimal k) k (at_range (λ n. spells (decimal n) n) 0 256 k decimals (omega arith) (omega (arith, less)))

pub sig_spells : (k : ℕ) → k < 16 → Spells (hex8_of (0x906e0 + k)) (0x906e0 + k)
sig_spells k less = spells_from (hex8_of (0x906e0 + k)) (0x906e0 + k) (at_range (λ n. spells (hex8_of (0x906e0 + n)) (0x906e0 + n)) 0 16 k signatures (omega arith) (omega (arith, less)))

pub flags_spells : (k : ℕ) → k < 8 → Spells (hex8_of (2 ^ k)) (2 ^ k)
flags_spells k less = spells_from (hex8_of (2 ^ k)) (2 ^ k) (at_range (λ n. spells (hex8_of (2 ^ n)) (2 ^ n)) 0 8 k flags (omega arith) (omega (arith, less)))

pub rev_spells : Spells (hex8_of 0x80) 0x80
rev_spells = spells_from (hex8_of 0x80) 0x80 revision

flags_small : list_all (λ k. nat_lt (2 ^ k) (2 ^ 32)) (range_with_len 0 8) ≡ true
flags_small = refl

pub flags_less : (k : ℕ) → k < 8 → 2 ^ k < 2 ^ 32
flags_less k less = ltb-true (2 ^ k) (2 ^ 32) (at_range (λ n. nat_lt (2 ^ n) (2 ^ 32)) 0 8 k flags_small (omega arith) (omega (arith, less)))
