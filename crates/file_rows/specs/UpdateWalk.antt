-- How rows go with a walk over an Intel file.
use Rattle.std.specs.Prelude.{◌≡◌, ℕ, ◌-◌, List, [], ◌∷◌, ◌++◌, Option, Some, None, Result, Ok, Err}
use Rattle.uc_bytes.specs.declared.causes.FileFault.{FileFault}
use Rattle.uc_bytes.specs.declared.causes.FileAnswer.{FileAnswer}
use Rattle.intel_format.specs.declared.header.IntelHeader.{IntelHeader}
use Rattle.intel_format.specs.File.{FileUpdate}
use Rattle.intel_format.specs.Settled.{IsSettled}
use Rattle.intel_file.specs.declared.walk.IntelWalk.{IntelWalk}
use Rattle.intel_file.specs.declared.walk.What.{What}
use Rattle.intel_file.specs.declared.walk.What.TheVariants.{Update, Fault}
use Rattle.intel_file.specs.Walk.{Stands}
use Rattle.file_rows.specs.UpdateRows.{row_of_ended, rows_of_updates, pairs_of_updates}
use Rattle.file_rows.specs.declared.updates.UpdateRow.{UpdateRow}
use Rattle.file_rows.specs.declared.updates.UpdateRows.{UpdateRows}

-- the rows are those of these updates, and behind their pairs stand those of one that is coming
pub record HasRows (us : List FileUpdate) (pairs : List (ℕ × ℕ)) (kept : UpdateRows) : Type 0 where
  pub kept_rows : kept.rows.items ≡ rows_of_updates 0 0 us
  pub kept_pairs : kept.pairs.items ≡ pairs_of_updates us ++ pairs

-- these bytes came to the walk, and the rows are those of the updates that came whole
pub record Lists (walk : IntelWalk) (kept : UpdateRows) (bytes : List ℕ) : Type 0 where
  pub updates : List FileUpdate
  pub coming : List (ℕ × ℕ)
  pub stands : Stands walk bytes updates coming
  pub has : HasRows updates coming kept

-- the row of an update that came whole, if one did, whose pairs are the last of so many
abbrev pub rows_with : IntelHeader → ℕ → What → List UpdateRow
rows_with h pairs (Update ended) = row_of_ended h ended (pairs - ended.pairs) ∷ []
rows_with h pairs what = []

-- the fault that came, if one did
abbrev pub fault_in : What → Option FileFault
fault_in (Fault fault) = Some fault
fault_in what = None

-- what was taken last is kept; a fault is settled
abbrev pub IsKept : List ℕ → IntelWalk → UpdateRows → Option FileFault → Type 0
IsKept bytes walk kept None = Lists walk kept bytes
IsKept bytes walk kept (Some fault) = IsSettled bytes fault.offset fault.cause

-- what a walk over bytes leads to
abbrev pub IsWalked : List ℕ → IntelWalk → UpdateRows → Result (Option FileFault) FileAnswer → Type 0
IsWalked bytes walk kept (Ok fault) = IsKept bytes walk kept fault
IsWalked bytes walk kept (Err answer) = Unit {0}
