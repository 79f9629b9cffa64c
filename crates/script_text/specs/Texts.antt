-- What a text states, as a relation between the whole text and the script, and where it first goes wrong.
use Rattle.std.specs.Prelude.{◌≡◌, ◌≢◌, ◌⊎◌, ℕ, true, List, [], ◌∷◌, ◌++◌, Some}
use Rattle.fault_rule.specs.Checks.{AllPass, IsFirst}
use Rattle.uc_text.specs.Lines.{counted_lines, words_of}
use Rattle.script_text.specs.declared.fault.ScriptCause.{ScriptCause}
use Rattle.script_text.specs.declared.fault.ScriptCause.TheVariants.{Head, NoEnd}
use Rattle.script_text.specs.declared.fault.ScriptFault.{ScriptFault}
use Rattle.script_text.specs.declared.forms.Form.{Form}
use Rattle.script_text.specs.declared.forms.Limits.{Limits}
use Rattle.script_text.specs.declared.forms.Place.TheVariants.{Front, InLoad}
use Rattle.script_text.specs.Stated.{Stated}
use Rattle.script_text.specs.Forms.{form_of}
use Rattle.script_text.specs.Stands.{Before, opening, after, script_of}
use Rattle.script_text.specs.Checks.{checks, fails}

-- the check that a cause names fails at a line, after what stands before it
abbrev pub LineFails : Limits → Before → ℕ × List ℕ → ScriptCause → Type 0
LineFails limits before line cause = fails limits before (words_of line.1) cause ≡ true

-- a line at which no check fails, and what stands after it
pub record Adds (limits : Limits) (before : Before) (line : ℕ × List ℕ) (next : Before) : Type 0 where
  pub passes : AllPass (LineFails limits before line) checks
  pub form : Form
  pub has_form : form_of before.place (words_of line.1) ≡ Some form
  pub next_is : next ≡ after before line.0 form (words_of line.1)

-- lines of which each adds to what stands before it
abbrev pub InTurn : Limits → Before → List (ℕ × List ℕ) → Before → Type 0
InTurn limits before [] last = before ≡ last
InTurn limits before (line ∷ lines) last =
    (next : Before) × Adds limits before line next × InTurn limits next lines last

-- after what stands at the start, the lines before one add in turn, and this is the first check that fails at that line
pub record FaultAtLine (limits : Limits) (start : Before) (lines : List (ℕ × List ℕ))
    (fault : ScriptFault) : Type 0 where
  pub front : List (ℕ × List ℕ)
  pub line : ℕ × List ℕ
  pub rest : List (ℕ × List ℕ)
  pub before : Before
  pub parts : lines ≡ front ++ line ∷ rest
  pub sound : InTurn limits start front before
  pub wrong : IsFirst (LineFails limits before line) checks fault.cause
  pub place : fault.line ≡ line.0

-- no line stands
pub record NoLine (lines : List (ℕ × List ℕ)) (fault : ScriptFault) : Type 0 where
  pub none : lines ≡ []
  pub which : fault ≡ record { line = 0; cause = Head }

-- all lines add in turn, and the last load has no end
pub record LoadWithoutEnd (limits : Limits) (lines : List (ℕ × List ℕ)) (fault : ScriptFault) : Type 0 where
  pub last : Before
  pub sound : InTurn limits opening lines last
  pub left_open : last.place ≡ InLoad
  pub which : fault ≡ record { line = last.load.line; cause = NoEnd }

-- the text states the script: all its lines that count add in turn, there is one, and no load is left open
pub record States (limits : Limits) (text : List ℕ) (script : Stated) : Type 0 where
  pub last : Before
  pub sound : InTurn limits opening (counted_lines text) last
  pub begun : last.place ≢ Front
  pub closed : last.place ≢ InLoad
  pub script_is : script ≡ script_of last

-- the text states nothing, and this is its first fault
abbrev pub FirstFault : Limits → List ℕ → ScriptFault → Type 0
FirstFault limits text fault =
    NoLine (counted_lines text) fault ⊎ FaultAtLine limits opening (counted_lines text) fault
    ⊎ LoadWithoutEnd limits (counted_lines text) fault
