use Rattle.std.proofs.Common.{◌≡◌, drop}
use Rattle.std.specs.List.{find}
use Rattle.uc_text.specs.Lines.{words_of}
use Rattle.script_text.specs.Forms.{forms, has_form}
use Rattle.uc_script.proofs.forms.form_of.Given as goal

-- the line has none of the forms so far
abbrev pub invariant-loop-form : goal.invariant-loop-form
invariant-loop-form l =
    find (has_form (words_of l.line)) (drop l.form-index l.form-items) ≡ find (has_form (words_of l.line)) (forms l.fn.place)
