-- Words of byte lists. A word is a little-endian number of 32 bits, a half word one of 16.
use Rattle.std.specs.Prelude.{ℕ, ◌+◌, ◌%◌, ◌^◌, List, [], ◌∷◌, drop}
use Rattle.byteorder.specs.Endian.{little_number}

-- the word in the four bytes from a place on
unfoldable pub word : List ℕ → ℕ → ℕ
word bytes at = little_number 4 (drop at bytes)

-- the half word in the two bytes from a place on
unfoldable pub half : List ℕ → ℕ → ℕ
half bytes at = little_number 2 (drop at bytes)

-- the words of the bytes, from the first, added up
abbrev pub word_total : List ℕ → ℕ
word_total (a ∷ b ∷ c ∷ d ∷ rest) = little_number 4 (a ∷ b ∷ c ∷ d ∷ []) + word_total rest
word_total bytes = 0

-- the sum of the words, modulo 2^32
unfoldable pub word_sum_of : List ℕ → ℕ
word_sum_of bytes = word_total bytes % 2 ^ 32
