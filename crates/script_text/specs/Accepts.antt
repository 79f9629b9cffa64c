-- Which bytes are accepted as a script for a machine of so many threads and cores, and why others are refused.
use Rattle.std.specs.Prelude.{◌≡◌, ◌⊎◌, ℕ, ◌<◌, ◌≤◌, List, length}
use Rattle.script_text.specs.declared.fault.ScriptCause.{ScriptCause}
use Rattle.script_text.specs.declared.fault.ScriptCause.TheVariants.{TooLong}
use Rattle.script_text.specs.declared.forms.Limits.{Limits}
use Rattle.script_text.specs.Stated.{Stated}
use Rattle.script_text.specs.Texts.{States, FirstFault}
use Rattle.script_text.specs.declared.TheConstants.{SCRIPT_LIMIT}

-- a script within its limit, and what it states
pub record IsScript (limits : Limits) (bytes : List ℕ) (script : Stated) : Type 0 where
  pub within : length bytes ≤ SCRIPT_LIMIT
  pub states : States limits bytes script

-- at which line and why a script is refused: what passes the limit is not looked into
abbrev pub RefusesScript : Limits → List ℕ → ℕ → ScriptCause → Type 0
RefusesScript limits bytes line cause =
    ((SCRIPT_LIMIT < length bytes) × (line ≡ 0) × (cause ≡ TooLong))
    ⊎ ((length bytes ≤ SCRIPT_LIMIT) × FirstFault limits bytes (record { line = line; cause = cause }))
