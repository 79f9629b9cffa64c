-- What a sink stands for that keeps how many lines were written and how they end.
use Rattle.std.specs.Prelude.{◌≡◌, ◌-◌, ◌^◌, ℕ, List, take, min, count_by}
use Rattle.std.specs.List.{before_last, after_last}
use Rattle.uc_text.specs.Lines.{is_line_feed}
use Rattle.uc_gen.specs.declared.tally.TallySink.{TallySink}

-- the last whole line, without its LF; nothing where there is none
abbrev pub last_line : List ℕ → List ℕ
last_line text = after_last is_line_feed (before_last is_line_feed text)

-- what follows it
abbrev pub unfinished : List ℕ → List ℕ
unfinished text = after_last is_line_feed text

-- how many lines the sink counted
abbrev pub lines_of : TallySink → ℕ
lines_of sink = sink.lines

-- the last whole line that it took, cut to 128 bytes
abbrev pub last_of : TallySink → List ℕ
last_of sink = sink.last.items

-- what it took behind that, cut likewise
abbrev pub rest_of : TallySink → List ℕ
rest_of sink = sink.rest.items

-- It stands for each text with that many LF bytes that ends in these, cut in the same way. Where the number is the
-- greatest of 64 bits, the text has at least as many.
pub record Tallies (sink : TallySink) (text : List ℕ) : Type 0 where
  pub lines : lines_of sink ≡ min (count_by is_line_feed text) (2 ^ 64 - 1)
  pub last : last_of sink ≡ take 128 (last_line text)
  pub rest : rest_of sink ≡ take 128 (unfinished text)
