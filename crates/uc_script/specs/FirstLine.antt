-- The first line of a text, and what is left of a line within it.
use Rattle.std.specs.Prelude.{ℕ, ◌+◌, Bool, true, false, List, [], take, drop}
use Rattle.std.specs.List.{position_or_len}
use Rattle.std.specs.Str.Lines.{strip_carriage_return}
use Rattle.uc_text.specs.Lines.{is_line_feed, words_of}

-- the bytes before the first LF, but for a CR at their end
abbrev pub first_line : List ℕ → List ℕ
first_line text = strip_carriage_return (take (position_or_len is_line_feed text) text)

-- the bytes after that LF
abbrev pub after_line : List ℕ → List ℕ
after_line text = drop (position_or_len is_line_feed text + 1) text

-- the words of a line that are left before this text: those of its first line, or none where the line is done
abbrev pub left_words : List ℕ → Bool → List (List ℕ)
left_words text true = []
left_words text false = words_of (first_line text)

-- the text after that line
abbrev pub left_text : List ℕ → Bool → List ℕ
left_text text true = text
left_text text false = after_line text
