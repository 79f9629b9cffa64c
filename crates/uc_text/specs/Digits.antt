-- How numbers are printed. The decimal text is `decimal` of std.
use Rattle.std.specs.Prelude.{ℕ, ◌*◌, ◌/◌, ◌%◌, ◌^◌, List, [], ◌∷◌, ◌++◌, codes, map, slice_index}

-- the character of a hexadecimal digit
abbrev pub hex_digit : ℕ → ℕ
hex_digit digit = slice_index (codes "0123456789abcdef") digit

-- the digit of a number at a place, counted from the lowest: each stands for four bits
abbrev pub digit_at : ℕ → ℕ → ℕ
digit_at value place = hex_digit (value / 2 ^ (4 * place) % 16)

-- `0x` and the eight lower-case hexadecimal digits of a number, the highest first
unfoldable pub hex8_of : ℕ → List ℕ
hex8_of value = codes "0x" ++ map (digit_at value) (7 ∷ 6 ∷ 5 ∷ 4 ∷ 3 ∷ 2 ∷ 1 ∷ 0 ∷ [])
