-- The lines of a text, and the words of a line.
use Rattle.std.specs.Prelude.{ℕ, Bool, true, false, ◌||◌, ◌&&◌, not, List, [], ◌∷◌, length, map, filter, slice_index, nat_lt, ◌==◌}
use Rattle.std.specs.List.{slice_split, enumerate_from}
use Rattle.std.specs.Str.Lines.{strip_carriage_return}

-- the byte that ends a line, LF
abbrev pub is_line_feed : ℕ → Bool
is_line_feed byte = byte == 10

-- the bytes between words, space and tab
abbrev pub is_blank : ℕ → Bool
is_blank byte = byte == 32 || byte == 9

-- the bytes of words, all others
abbrev pub is_in_word : ℕ → Bool
is_in_word byte = not (is_blank byte)

-- pieces, but for a last one that is empty
abbrev pub without_empty_last : List (List ℕ) → List (List ℕ)
without_empty_last [] = []
without_empty_last ([] ∷ []) = []
without_empty_last (piece ∷ pieces) = piece ∷ without_empty_last pieces

-- the pieces between LF bytes: an empty last piece is no line, and each line loses one CR at its end
unfoldable pub lines_of : List ℕ → List (List ℕ)
lines_of bytes = map strip_carriage_return (without_empty_last (slice_split is_line_feed bytes))

-- the lines with their numbers, which begin at 1
abbrev pub numbered_lines : List ℕ → List (ℕ × List ℕ)
numbered_lines bytes = enumerate_from 1 (lines_of bytes)

abbrev pub has_bytes : List ℕ → Bool
has_bytes [] = false
has_bytes (byte ∷ bytes) = true

-- the longest runs of bytes other than space and tab
unfoldable pub words_of : List ℕ → List (List ℕ)
words_of text = filter has_bytes (slice_split is_blank text)

-- a line with words that is no comment, which `#` begins
abbrev pub counts : ℕ × List ℕ → Bool
counts line = nat_lt 0 (length (words_of line.1)) && not (slice_index line.1 0 == 35)

-- the lines of a text that count, with their numbers among all its lines
abbrev pub counted_lines : List ℕ → List (ℕ × List ℕ)
counted_lines bytes = filter counts (numbered_lines bytes)
