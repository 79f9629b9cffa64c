-- Sums of words, of bytes that come in pieces.
use Rattle.std.proofs.Common.{◌≡◌, ℕ, ◌+◌, ◌*◌, ◌-◌, ◌/◌, ◌%◌, ◌^◌, List, [], ◌∷◌, ◌++◌, length, arith}
use Rattle.uc_bytes.specs.Words.{word, word_total, word_sum_of}

total-append : (k : ℕ) (front back : List ℕ) → length front ≡ 4 * k → word_total (front ++ back) ≡ word_total front + word_total back
total-append k [] back long = omega arith
total-append k (a ∷ []) back long = absurd (omega arith)
total-append k (a ∷ b ∷ []) back long = absurd (omega arith)
total-append k (a ∷ b ∷ c ∷ []) back long = absurd (omega arith)
total-append k (a ∷ b ∷ c ∷ d ∷ rest) back long = omega (arith, total-append (k - 1) rest back (omega arith))

-- the sum goes on where whole words were summed
pub sum-append : (front back : List ℕ) → length front % 4 ≡ 0 → word_sum_of (front ++ back) ≡ (word_sum_of front + word_sum_of back) % 2 ^ 32
unfolding word_sum_of
sum-append front back even = omega (arith, total-append (length front / 4) front back (omega arith))

-- that of three words
pub sum_of_three : (entry : List ℕ) → length entry ≡ 12 → word_sum_of entry ≡ (word entry 0 + word entry 4 + word entry 8) % 2 ^ 32
unfolding word_sum_of word
sum_of_three (a ∷ b ∷ c ∷ d ∷ e ∷ f ∷ g ∷ h ∷ i ∷ j ∷ k ∷ l ∷ []) long = omega arith
sum_of_three bytes long = absurd (omega arith)
