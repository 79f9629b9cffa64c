-- What a text states, computed line by line.
use Rattle.std.specs.Prelude.{ℕ, List, [], ◌∷◌, Option, Some, None, Result, Ok, Err}
use Rattle.fault_rule.specs.Checks.{first_of}
use Rattle.uc_text.specs.Lines.{counted_lines, words_of}
use Rattle.script_text.specs.declared.fault.ScriptCause.{ScriptCause}
use Rattle.script_text.specs.declared.fault.ScriptCause.TheVariants.{Head, Word, NoEnd}
use Rattle.script_text.specs.declared.fault.ScriptFault.{ScriptFault}
use Rattle.script_text.specs.declared.forms.Form.{Form}
use Rattle.script_text.specs.declared.forms.Limits.{Limits}
use Rattle.script_text.specs.declared.forms.Place.{Place}
use Rattle.script_text.specs.declared.forms.Place.TheVariants.{Front, InLoad}
use Rattle.script_text.specs.Stated.{Stated}
use Rattle.script_text.specs.Forms.{form_of}
use Rattle.script_text.specs.Stands.{Before, opening, after, script_of}
use Rattle.script_text.specs.Checks.{checks, fails_at}

-- a line of this form, or of none, without a fault
abbrev pub added : Before → ℕ → Option Form → List (List ℕ) → Result Before ScriptCause
added before line None words = Err Word
added before line (Some form) words = Ok (after before line form words)

-- the same, or the cause that was found
abbrev pub unless_found : Option ScriptCause → Result Before ScriptCause → Result Before ScriptCause
unless_found None next = next
unless_found (Some cause) next = Err cause

-- what stands after words of this form, or of none, or the first check that fails
abbrev pub after_form : Limits → Before → ℕ → Option Form → List (List ℕ) → Result Before ScriptCause
after_form limits before line form words =
    unless_found (first_of (fails_at limits before form words) checks) (added before line form words)

unfoldable pub after_line : Limits → Before → ℕ × List ℕ → Result Before ScriptCause
after_line limits before line =
    after_form limits before line.0 (form_of before.place (words_of line.1)) (words_of line.1)

-- what stands after the last line states a script, or not
abbrev pub finished_at : Place → Before → Result Stated ScriptFault
finished_at Front before = Err (record { line = 0; cause = Head })
finished_at InLoad before = Err (record { line = before.load.line; cause = NoEnd })
finished_at place before = Ok (script_of before)

abbrev pub finished : Before → Result Stated ScriptFault
finished before = finished_at before.place before

-- the first fault is at this line, or the lines after it go on
abbrev pub go_on : ℕ → Result Before ScriptCause → (Before → Result Stated ScriptFault) → Result Stated ScriptFault
go_on line (Ok next) rest = rest next
go_on line (Err cause) rest = Err (record { line = line; cause = cause })

unfoldable pub read_on : Limits → Before → List (ℕ × List ℕ) → Result Stated ScriptFault
read_on limits before [] = finished before
read_on limits before (line ∷ lines) = go_on line.0 (after_line limits before line) (λ next. read_on limits next lines)

-- what a text states, or its first fault
unfoldable pub reading : Limits → List ℕ → Result Stated ScriptFault
reading limits text = read_on limits opening (counted_lines text)
