use Rattle.std.proofs.Common.{◌≡◌}
use Rattle.std.specs.List.{list_all}
use Rattle.script_text.specs.Forms.{is_beat}
use Rattle.uc_script.proofs.forms.are_beats.Given as goal

-- the words so far are beats
abbrev pub invariant-loop-word : goal.invariant-loop-word
invariant-loop-word l =
    (goal.iterator-loop-word).can_next l.word-iterator ×
    (goal.iterator-loop-word).is_finite l.word-iterator ×
    (list_all is_beat l.word-iterator ≡ list_all is_beat l.fn.words)
