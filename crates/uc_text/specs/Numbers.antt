-- How numbers are spelled: one or more decimal digits, or `0x` and one or more hexadecimal digits of either case.
use Rattle.std.specs.Prelude.{ℕ, ◌+◌, ◌*◌, ◌^◌, Bool, ◌&&◌, List, [], ◌∷◌, length, drop, codes, Option, None, Some, nat_eq, nat_lt, if◌then◌else◌}
use Rattle.std.specs.Char.{digit_value, is_digit}
use Rattle.std.specs.List.{list_all, starts_with}

-- the number that digits stand for: each counts as often as its place says
abbrev pub place_value : ℕ → List ℕ → ℕ
place_value radix [] = 0
place_value radix (digit ∷ digits) = digit_value digit * radix ^ length digits + place_value radix digits

-- one or more digits of a radix
abbrev pub are_digits : ℕ → List ℕ → Bool
are_digits radix text = nat_lt 0 (length text) && list_all (λ byte. is_digit byte radix) text

-- the number that a text of digits of a radix spells
abbrev pub spelled_in : ℕ → List ℕ → Option ℕ
spelled_in radix text = if are_digits radix text then Some (place_value radix text) else None

-- the number that a text spells, however great
unfoldable pub spelled : List ℕ → Option ℕ
spelled text = if starts_with nat_eq text (codes "0x") then spelled_in 16 (drop 2 text) else spelled_in 10 text

-- a number, where it is below a limit
abbrev pub below : ℕ → Option ℕ → Option ℕ
below limit None = None
below limit (Some value) = if nat_lt value limit then Some value else None

-- the number of 64 bits that a text spells
abbrev pub number_of : List ℕ → Option ℕ
number_of text = below (2 ^ 64) (spelled text)
