use Rattle.std.proofs.Common.{◌≡◌, ◌+◌, ◌≤◌, length}
use Rattle.std.specs.List.{list_all}
use Rattle.std.specs.Str.{is_utf8}
use Rattle.uc_script.proofs.forms.are_names.Given as goal

-- the words so far are counted, and are UTF-8
abbrev pub invariant-loop-word : goal.invariant-loop-word
invariant-loop-word l =
    (goal.iterator-loop-word).can_next l.word-iterator ×
    (goal.iterator-loop-word).is_finite l.word-iterator ×
    (l.count + length l.word-iterator ≡ length l.fn.words) ×
    (l.count ≤ 16) ×
    (list_all is_utf8 l.word-iterator ≡ list_all is_utf8 l.fn.words)
