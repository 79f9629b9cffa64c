-- What the parts of the reader answer. No clause says when memory runs out.
use Rattle.std.specs.Prelude.{◌≡◌, ◌⊎◌, ℕ, ◌<◌, ◌≤◌, ◌^◌, Bool, true, false, List, [], length, slice_index_or, Option}
use Rattle.std.specs.Prelude.{Some, None, Result, Ok, Err}
use Rattle.uc_script.specs.declared.answer.LineAnswer.{LineAnswer}
use Rattle.uc_script.specs.declared.answer.LineAnswer.TheVariants as line
use Rattle.uc_script.specs.declared.answer.ScriptAnswer.{ScriptAnswer}
use Rattle.uc_script.specs.declared.answer.ScriptAnswer.TheVariants.{Fault, NoMemory}
use Rattle.script_text.specs.declared.fault.ScriptCause.{ScriptCause}
use Rattle.script_text.specs.declared.fault.ScriptCause.TheVariants.{Head, Word, Number, Range, TooMany}
use Rattle.script_text.specs.declared.fault.ScriptFault.{ScriptFault}
use Rattle.script_text.specs.declared.command.Command.{Command}
use Rattle.script_text.specs.declared.command.OpenLoad.{OpenLoad}
use Rattle.script_text.specs.declared.forms.Form.{Form}
use Rattle.script_text.specs.declared.forms.Form.TheVariants as form
use Rattle.script_text.specs.declared.forms.Place.{Place}
use Rattle.script_text.specs.declared.forms.Place.TheVariants.{Front, AfterPool, Commands, InLoad}
use Rattle.script_text.specs.declared.forms.Limits.{Limits}
use Rattle.script_text.specs.Stated.{Stated}
use Rattle.script_text.specs.Stands.{Before, with_command, with_end}
use Rattle.uc_text.specs.Lines.{words_of}
use Rattle.uc_text.specs.Numbers.{number_of}
use Rattle.script_text.specs.Reading.{after_form, read_on}

abbrev pub answer_at : ℕ → LineAnswer → ScriptAnswer
answer_at number (line.Cause cause) = Fault (record { line = number; cause = cause })
answer_at number line.NoMemory = NoMemory

-- what holds of the fault, where there is one
abbrev pub IfFault : ScriptAnswer → (ScriptFault → Type 0) → Type 0
IfFault (Fault fault) P = P fault
IfFault NoMemory P = Unit {0}

-- the number that a text spells, where it does
abbrev pub IsStated : Option ℕ → Result ℕ ScriptCause → Type 0
IsStated spelled (Ok number) = spelled ≡ Some number
IsStated spelled (Err cause) = (spelled ≡ None) × (cause ≡ Number)

-- the same of one below a limit
abbrev pub IsBelow : Option ℕ → ℕ → Result ℕ ScriptCause → Type 0
IsBelow spelled limit (Ok number) = (spelled ≡ Some number) × (number < limit)
IsBelow None limit (Err cause) = cause ≡ Number
IsBelow (Some number) limit (Err cause) = (limit ≤ number) × (cause ≡ Range)

-- a line of this form and these words adds to what stands before it, or the first check that fails at it
abbrev pub IsAdded : Limits → Before → ℕ → Form → List (List ℕ) → Before → Result (Unit {0}) LineAnswer → Type 0
IsAdded limits before number form words next (Ok _) = after_form limits before number (Some form) words ≡ Ok next
IsAdded limits before number form words next (Err (line.Cause cause)) =
    after_form limits before number (Some form) words ≡ Err cause
IsAdded limits before number form words next (Err line.NoMemory) = Unit {0}

-- reading goes on as it would have from there, with fewer lines, or ends at its first fault
abbrev pub GoesOn : Limits → Before → List (ℕ × List ℕ) → Before → List (ℕ × List ℕ) → Result (Unit {0}) ScriptAnswer →
    Type 0
GoesOn limits before lines next rest (Ok _) =
    (read_on limits before lines ≡ read_on limits next rest) × (length rest < length lines)
GoesOn limits before lines next rest (Err (Fault fault)) = read_on limits before lines ≡ Err fault
GoesOn limits before lines next rest (Err NoMemory) = Unit {0}

-- what was read
abbrev pub IsRead : Result Stated ScriptFault → Result Stated ScriptAnswer → Type 0
IsRead read (Ok script) = read ≡ Ok script
IsRead read (Err (Fault fault)) = read ≡ Err fault
IsRead read (Err NoMemory) = Unit {0}

-- ---- single lines

-- a form of a line that neither begins nor ends a load, nor stands in one
abbrev pub is_single : Form → Bool
is_single form.Load = false
is_single form.LoadForce = false
is_single form.End = false
is_single form.Beats = false
is_single one = true

abbrev pub without_form : Place → ScriptCause
without_form Front = Head
without_form place = Word

-- what the second word of a line spells
abbrev pub spelling : List ℕ → Option ℕ
spelling line = number_of (slice_index_or (words_of line) 1 [])

-- the causes of a number that is not there, or not in range
abbrev pub IsNoNumber : Option ℕ → (ℕ → Type 0) → ScriptCause → Type 0
IsNoNumber None InRange cause = cause ≡ Number
IsNoNumber (Some number) InRange cause = (InRange number → ⊥) × (cause ≡ Range)

-- a number of blocks is set
abbrev pub SetsPool : Before → Option ℕ → Before → Result (Unit {0}) LineAnswer → Type 0
SetsPool before spelled next (Ok _) =
    (n : ℕ) × (spelled ≡ Some n) × (1 ≤ n) × (n ≤ 65536) × (next ≡ record before { place = AfterPool; pool = n })
SetsPool before spelled next (Err (line.Cause cause)) = IsNoNumber spelled (λ n. (1 ≤ n) × (n ≤ 65536)) cause
SetsPool before spelled next (Err line.NoMemory) = Unit {0}

-- a number of polls is set
abbrev pub SetsPatience : Before → Option ℕ → Before → Result (Unit {0}) LineAnswer → Type 0
SetsPatience before spelled next (Ok _) =
    (n : ℕ) × (spelled ≡ Some n) × (n < 2 ^ 32) × (next ≡ record before { place = Commands; patience = n })
SetsPatience before spelled next (Err (line.Cause cause)) = IsNoNumber spelled (λ n. n < 2 ^ 32) cause
SetsPatience before spelled next (Err line.NoMemory) = Unit {0}

-- a command is put behind those that stand
abbrev pub AddsCommand : Before → Command → Before → Result (Unit {0}) LineAnswer → Type 0
AddsCommand before command next (Ok _) = (length before.commands < 4096) × (next ≡ with_command before command)
AddsCommand before command next (Err (line.Cause cause)) = (4096 ≤ length before.commands) × (cause ≡ TooMany)
AddsCommand before command next (Err line.NoMemory) = Unit {0}

-- ---- loads

-- the lines of a load that begins go on, or it is a command too many
abbrev pub AddsLoad : Limits → Before → OpenLoad → List (ℕ × List ℕ) → Before → List (ℕ × List ℕ) →
    Result (Unit {0}) ScriptAnswer → Type 0
AddsLoad limits before load lines next rest result =
    ((4096 ≤ length before.commands) × (result ≡ Err (Fault (record { line = load.line; cause = TooMany }))))
    ⊎ ((length before.commands < 4096)
    × GoesOn limits (record before { place = InLoad; load = load }) lines next rest result)

abbrev pub EndsLoad : Before → OpenLoad → Before → Result (Unit {0}) ScriptAnswer → Type 0
EndsLoad before load next (Ok _) = next ≡ with_end (record before { load = load })
EndsLoad before load next (Err (Fault fault)) = ⊥
EndsLoad before load next (Err NoMemory) = Unit {0}
