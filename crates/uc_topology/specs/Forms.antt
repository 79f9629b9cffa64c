-- Forms of lines. A form is written as a line: its capital letters stand for numbers, its other words stand as they are.
use Rattle.std.specs.Prelude.{ℕ, ◌^◌, Bool, true, false, ◌&&◌, ◌||◌, List, [], ◌∷◌, bytes_eq, ◌==◌, slice_index, nat_le, Option, None, Some, option_and_then, if◌then◌else◌}
use Rattle.uc_text.specs.Numbers.{spelled, below}

-- a part of a form that stands for a number
abbrev pub is_number : List ℕ → Bool
is_number part = nat_le 65 (slice_index part 0) && nat_le (slice_index part 0) 90

-- where the numbers end that a capital letter stands for: C, T and P, cores, threads and packages, have 16 bits, all others 32
abbrev pub limit_of : List ℕ → ℕ
limit_of part = if (slice_index part 0 == 67 || slice_index part 0 == 84) || slice_index part 0 == 80 then 2 ^ 16 else 2 ^ 32

-- the words have the form: each part has its word, and is a number's or that word
abbrev pub have_form : List (List ℕ) → List (List ℕ) → Bool
have_form [] [] = true
have_form [] (word ∷ words) = false
have_form (part ∷ parts) [] = false
have_form (part ∷ parts) (word ∷ words) = (is_number part || bytes_eq word part) && have_form parts words

abbrev pub cons_some : ℕ → Option (List ℕ) → Option (List ℕ)
cons_some number None = None
cons_some number (Some numbers) = Some (number ∷ numbers)

-- the numbers of a line, where each has a spelling and is below its limit
abbrev pub numbers_of : List (List ℕ) → List (List ℕ) → Option (List ℕ)
numbers_of (part ∷ parts) (word ∷ words) =
    if is_number part then option_and_then (λ number. cons_some number (numbers_of parts words)) (below (limit_of part) (spelled word)) else numbers_of parts words
numbers_of parts words = Some []
