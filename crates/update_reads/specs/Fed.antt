-- What the pieces of an update file come to that are fed to a catalogue.
use Rattle.std.specs.Prelude.{◌≡◌, ℕ, ◌≤◌, List, ◌++◌, length, Option, Some, None, Result, Ok, Err}
use Rattle.uc_bytes.specs.declared.causes.FileFault.{FileFault}
use Rattle.uc_io.specs.Faults.{Rose}
use Rattle.entry_model.specs.Reading.{HasFault}
use Rattle.file_rows.specs.FileReading.{IsSettled}
use Rattle.uc_catalog.specs.Contents.{Contents, Comes, Adds, with_coming}
use Rattle.uc_bytes.specs.declared.TheConstants.{FILE_LIMIT}
use Rattle.read_model.specs.Accepts.{Refuses}
use Rattle.update_reads.specs.declared.answers.UpdateAnswer.{UpdateAnswer}
use Rattle.update_reads.specs.declared.answers.UpdateAnswer.TheVariants.{ReadFault, BadFile, NoMemory}

-- these bytes came to the catalogue; or they have a fault that no further bytes undo
abbrev pub HasCome : List ℕ → Option FileFault → Contents → Type 0
HasCome bytes None contents = Comes bytes contents
HasCome bytes (Some fault) contents = IsSettled bytes fault.offset fault.cause

-- so many bytes were taken of those that a file had, and came
pub record HasTaken (tells : Type 0) (held left : List ℕ) (count : ℕ) (fault : Option FileFault) (contents : Contents)
    : Type 0 where
  pub bytes : List ℕ
  pub long : length bytes ≡ count
  pub split : tells → held ≡ bytes ++ left
  pub come : HasCome bytes fault contents

-- all bytes came that were left of the file; or why they did not
abbrev pub ArePiecesFed : Type 0 → List ℕ → ℕ → ℕ → Contents → Result (Unit {0}) UpdateAnswer → Type 0
ArePiecesFed tells left before now contents (Ok _) =
    (now ≡ before) × ((bytes : List ℕ) × (length bytes ≤ FILE_LIMIT) × (tells → bytes ≡ left) × Comes bytes contents)
ArePiecesFed tells left before now contents (Err ReadFault) = Rose before now
ArePiecesFed tells left before now contents (Err (BadFile fault)) =
    (now ≡ before) × ((bytes : List ℕ) × (tells → bytes ≡ left) × Refuses bytes fault.offset fault.cause)
ArePiecesFed tells left before now contents (Err NoMemory) = now ≡ before

-- the file of these bytes is added, or has this fault; or memory ran out
abbrev pub IsUpdateEnded : List ℕ → Contents → Contents → Result (Unit {0}) UpdateAnswer → Type 0
IsUpdateEnded bytes old new (Ok _) = Adds old new bytes × (new.coming ≡ None)
IsUpdateEnded bytes old new (Err ReadFault) = ⊥
IsUpdateEnded bytes old new (Err (BadFile fault)) =
    HasFault bytes fault.offset fault.cause × (new ≡ with_coming None old)
IsUpdateEnded bytes old new (Err NoMemory) = new ≡ with_coming None old
