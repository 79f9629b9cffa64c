-- What a text states, as a relation between the whole text and the machine, and where it first goes wrong.
use Rattle.std.specs.Prelude.{◌≡◌, ℕ, true, false, List, [], ◌∷◌, ◌++◌, Ok, Err, ◌⊎◌, MatchResult}
use Rattle.uc_text.specs.Lines.{counted_lines}
use Rattle.uc_topology.specs.declared.fault.TopoCause.TheVariants.{Head, Word, EmptyCore}
use Rattle.uc_topology.specs.declared.fault.TopoFault.{TopoFault}
use Rattle.uc_topology.specs.declared.forms.Version.{Version}
use Rattle.uc_topology.specs.Stated.{Stated, Machine}
use Rattle.uc_topology.specs.Grammar.{version_of, vendor_of, after_line, nothing, is_full}

-- lines of which each states its core or thread after those before it
abbrev pub InTurn : Version → Stated → List (ℕ × List ℕ) → Stated → Type 0
InTurn version before [] after = before ≡ after
InTurn version before (line ∷ lines) after = (next : Stated) × (after_line version before line.1 ≡ Ok next) × InTurn version next lines after

-- the first line that states nothing after those before it, and why
pub record FaultInTurn (version : Version) (before : Stated) (lines : List (ℕ × List ℕ)) (fault : TopoFault) : Type 0 where
  pub front : List (ℕ × List ℕ)
  pub line : ℕ × List ℕ
  pub rest : List (ℕ × List ℕ)
  pub stated : Stated
  pub parts : lines ≡ front ++ line ∷ rest
  pub sound : InTurn version before front stated
  pub wrong : after_line version stated line.1 ≡ Err fault.cause
  pub place : line.0 ≡ fault.line

-- every line is sound, and a core has no thread, or there is none
pub record EmptyAtEnd (version : Version) (lines : List (ℕ × List ℕ)) (fault : TopoFault) : Type 0 where
  pub stated : Stated
  pub sound : InTurn version nothing lines stated
  pub empty : is_full stated ≡ false
  pub which : fault ≡ record { line = 0; cause = EmptyCore }

-- what the lines that count state: a version, a vendor, and then cores and threads
abbrev pub LinesState : List (ℕ × List ℕ) → Machine → Type 0
LinesState [] machine = ⊥
LinesState (head ∷ []) machine = ⊥
LinesState (head ∷ second ∷ body) machine =
    (version : Version) × (version_of head.1 ≡ Ok version) × (vendor_of second.1 ≡ Ok machine.vendor) × InTurn version nothing body machine.stated × (is_full machine.stated ≡ true)

abbrev pub SecondFault : Version → List (ℕ × List ℕ) → TopoFault → Type 0
SecondFault version [] fault = fault ≡ record { line = 0; cause = Word }
SecondFault version (second ∷ body) fault =
    MatchResult (vendor_of second.1) (λ _. FaultInTurn version nothing body fault ⊎ EmptyAtEnd version body fault) (λ cause. fault ≡ record { line = second.0; cause = cause })

abbrev pub LinesFault : List (ℕ × List ℕ) → TopoFault → Type 0
LinesFault [] fault = fault ≡ record { line = 0; cause = Head }
LinesFault (head ∷ rest) fault = MatchResult (version_of head.1) (λ version. SecondFault version rest fault) (λ cause. fault ≡ record { line = head.0; cause = cause })

-- the text states the machine
pub record States (text : List ℕ) (machine : Machine) : Type 0 where
  pub lines : LinesState (counted_lines text) machine

-- the text states nothing, and this is its first fault
pub record FirstFault (text : List ℕ) (fault : TopoFault) : Type 0 where
  pub lines : LinesFault (counted_lines text) fault
