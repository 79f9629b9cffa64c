use Rattle.std.proofs.Common.{◌≡◌, true, ◌++◌, drop}
use Rattle.std.specs.List.{list_all}
use Rattle.std.specs.Str.{is_utf8}
use Rattle.uc_text.specs.Lines.{words_of}
use Rattle.uc_script.proofs.names.names_of.Given as goal

-- the names so far and the words that are left are those of the line
abbrev pub invariant-loop-word : goal.invariant-loop-word
invariant-loop-word l =
    (goal.iterator-loop-word).can_next l.word-iterator ×
    (goal.iterator-loop-word).is_finite l.word-iterator ×
    (list_all is_utf8 l.word-iterator ≡ true) ×
    (l.names ++ l.word-iterator ≡ drop 1 (words_of l.line))
