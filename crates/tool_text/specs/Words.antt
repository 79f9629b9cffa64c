-- The rule of the command line: a command, and then
--   list    one to 16 names of update files
--   show    the name of an update file, and the number of an entry
--   select  the name of a topology, and one to 16 names of update files
--   play    the names of a topology and of a script
--   gen     a number
-- No name begins with a dash, and a number has one of the spellings of numbers.
use Rattle.std.specs.Prelude.{ℕ, ◌+◌, ◌==◌, ◌&&◌, nat_lt, nat_le, Bool, true, false, not, if◌then◌else◌}
use Rattle.std.specs.Prelude.{List, [], ◌∷◌, Option, Some, None, is_some, codes}
use Rattle.std.specs.Str.{bytes_eq}
use Rattle.uc_text.specs.Numbers.{number_of}
use Rattle.tool_text.specs.declared.TheConstants.{MOST_FILES}

-- what a command line asks for; or the index of the first word that cannot stand in its place, which is the number of
-- words where one is missing
pub data Asked : Type 0 where
  Faulty : ℕ → Asked
  ListOf : List (List ℕ) → Asked
  ShowOf : List ℕ → ℕ → Asked
  SelectOf : List ℕ → List (List ℕ) → Asked
  PlayOf : List ℕ → List ℕ → Asked
  GenOf : ℕ → Asked

-- the word may stand for the name of a file
abbrev pub is_name : List ℕ → Bool
is_name [] = true
is_name (first ∷ rest) = not (first == 45)

-- which words may stand at an index behind the command: names up to a last index
abbrev pub may_name : ℕ → ℕ → List ℕ → Bool
may_name last index word = nat_le index last && is_name word

-- a name, and then a number
abbrev pub may_show : ℕ → List ℕ → Bool
may_show index word =
    if index == 1 then is_name word else if index == 2 then is_some (number_of word) else false

-- a number alone
abbrev pub may_gen : ℕ → List ℕ → Bool
may_gen index word = if index == 1 then is_some (number_of word) else false

-- The first word that may not stand at its index, the words being numbered from an index on; or, where they are fewer
-- than are wanted, the index behind the last.
abbrev pub wrong_word : (ℕ → List ℕ → Bool) → ℕ → ℕ → List (List ℕ) → Option ℕ
wrong_word may wanted index [] = if nat_lt index wanted then Some index else None
wrong_word may wanted index (word ∷ words) =
    if may index word then wrong_word may wanted (index + 1) words else Some index

abbrev pub unless_wrong : Option ℕ → Asked → Asked
unless_wrong (Some index) line = Faulty index
unless_wrong None line = line

-- the number that a word spells
abbrev pub value_of : Option ℕ → ℕ
value_of (Some value) = value
value_of None = 0

abbrev pub show_of : List (List ℕ) → Asked
show_of (name ∷ number ∷ words) = ShowOf name (value_of (number_of number))
show_of words = Faulty 0

abbrev pub select_of : List (List ℕ) → Asked
select_of (topology ∷ names) = SelectOf topology names
select_of words = Faulty 0

abbrev pub play_of : List (List ℕ) → Asked
play_of (topology ∷ script ∷ words) = PlayOf topology script
play_of words = Faulty 0

abbrev pub gen_of : List (List ℕ) → Asked
gen_of (number ∷ words) = GenOf (value_of (number_of number))
gen_of words = Faulty 0

-- the words behind each command
abbrev pub list_asked : List (List ℕ) → Asked
list_asked words = unless_wrong (wrong_word (may_name MOST_FILES) 2 1 words) (ListOf words)

abbrev pub show_asked : List (List ℕ) → Asked
show_asked words = unless_wrong (wrong_word may_show 3 1 words) (show_of words)

abbrev pub select_asked : List (List ℕ) → Asked
select_asked words = unless_wrong (wrong_word (may_name (1 + MOST_FILES)) 3 1 words) (select_of words)

abbrev pub play_asked : List (List ℕ) → Asked
play_asked words = unless_wrong (wrong_word (may_name 2) 3 1 words) (play_of words)

abbrev pub gen_asked : List (List ℕ) → Asked
gen_asked words = unless_wrong (wrong_word may_gen 2 1 words) (gen_of words)

-- the words after the program's name
abbrev pub asked : List (List ℕ) → Asked
asked [] = Faulty 0
asked (command ∷ words) =
    if bytes_eq command (codes "list") then list_asked words else
    if bytes_eq command (codes "show") then show_asked words else
    if bytes_eq command (codes "select") then select_asked words else
    if bytes_eq command (codes "play") then play_asked words else
    if bytes_eq command (codes "gen") then gen_asked words else Faulty 0
