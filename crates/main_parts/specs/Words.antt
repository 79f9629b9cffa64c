-- The words of the command line.
use Rattle.std.specs.Prelude.{List, ℕ, if◌then◌else◌, codes}
use Rattle.std.specs.Str.{is_utf8}

-- the word that the bytes stand for: themselves where they are UTF-8, and else a dash
abbrev pub word_from : List ℕ → List ℕ
word_from bytes = if is_utf8 bytes then bytes else codes "-"
