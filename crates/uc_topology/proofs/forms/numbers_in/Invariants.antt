use Rattle.std.proofs.Common.{◌≡◌, ◌+◌, ◌≤◌, length}
use Rattle.uc_text.specs.Lines.{words_of}
use Rattle.uc_topology.specs.Forms.{numbers_of}
use Rattle.uc_topology.proofs.Fields.{after}
use Rattle.uc_topology.proofs.forms.numbers_in.Given as goal

-- the numbers so far and those of what is left are those of the line
abbrev pub invariant-loop-part : goal.invariant-loop-part
invariant-loop-part l =
    (goal.iterator-loop-part).can_next l.part-iterator ×
    (goal.iterator-loop-part).is_finite l.part-iterator ×
    (length l.numbers.items + length l.part-iterator ≤ 10) ×
    (after l.numbers.items (numbers_of l.part-iterator l.words) ≡ numbers_of (words_of l.form) (words_of l.line))
