-- The line on a script that is refused.
use Rattle.std.specs.Prelude.{ℕ, List, [], ◌∷◌, codes, decimal, flat_map}
use Rattle.script_text.specs.declared.fault.ScriptCause.{ScriptCause}
use Rattle.script_text.specs.declared.fault.ScriptCause.TheVariants.{Head, Word, Number, Range, NoEnd, TooMany, TooLong}

-- the texts of a script's causes
abbrev pub script_cause_text : ScriptCause → List ℕ
script_cause_text Head = codes "head"
script_cause_text Word = codes "word"
script_cause_text Number = codes "number"
script_cause_text Range = codes "range"
script_cause_text NoEnd = codes "no-end"
script_cause_text TooMany = codes "too-many"
script_cause_text TooLong = codes "too-long"

-- a script that is refused: at which line, and for which cause
unfoldable pub script_line : ℕ → ScriptCause → List ℕ
script_line line cause =
    flat_map (λ piece. piece)
    (codes "error script line " ∷ decimal line ∷ codes " " ∷ script_cause_text cause ∷ codes "\n" ∷ [])
