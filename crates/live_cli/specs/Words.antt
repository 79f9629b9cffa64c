-- The rule of the command line: the names of a topology and of a script. No name begins with a dash.
use Rattle.std.specs.Prelude.{◌≡◌, ℕ, List, Result, Ok, Err}
use Rattle.tool_text.specs.Words.{Asked, Faulty, PlayOf, may_name, wrong_word, unless_wrong, play_of}
use Rattle.live_cli.specs.declared.words.Named.{Named}

-- what the words after the program's name ask for
abbrev pub live_asked : List (List ℕ) → Asked
live_asked words = unless_wrong (wrong_word (may_name 1) 2 0 words) (play_of words)

-- the names that are asked for, or the index of the word that is wrong
abbrev pub Asks : Asked → Result Named ℕ → Type 0
Asks line (Ok named) = line ≡ PlayOf named.topology.now named.script.now
Asks line (Err index) = line ≡ Faulty index
