use Rattle.std.proofs.Common.{◌≡◌}
use Rattle.uc_text.specs.Lines.{words_of}
use Rattle.script_text.specs.Forms.{have_form}
use Rattle.uc_script.proofs.forms.has_form.Given as goal

-- what is left of the line has what is left of the form exactly where the whole line has the form
abbrev pub invariant-loop-part : goal.invariant-loop-part
invariant-loop-part l =
    (goal.iterator-loop-part).can_next l.part-iterator ×
    (goal.iterator-loop-part).is_finite l.part-iterator ×
    (have_form l.part-iterator l.words ≡ have_form (words_of l.form) (words_of l.line))
