-- What the reader of an Intel file knows of the bytes that came.
use Rattle.std.specs.Prelude.{◌≡◌, ℕ, List, ◌++◌, length, Result, Ok, Err}
use Rattle.uc_bytes.specs.declared.causes.FileCause.{FileCause}
use Rattle.uc_bytes.specs.declared.causes.FileFault.{FileFault}
use Rattle.uc_bytes.specs.declared.causes.FileAnswer.{FileAnswer}
use Rattle.uc_bytes.specs.declared.causes.FileAnswer.TheVariants.{Fault, NoMemory}
use Rattle.intel_format.specs.File.{FileUpdate, IntelFile, IsFault}
use Rattle.intel_format.specs.Settled.{IsSettled}
use Rattle.file_rows.specs.UpdateRows.{AreUpdateRows}
use Rattle.file_rows.specs.UpdateWalk.{Lists}
use Rattle.file_rows.specs.declared.updates.UpdateRows.{UpdateRows}
use Rattle.file_rows.specs.declared.update_reader.UpdateReader.{UpdateReader}

-- these bytes came to the reader, and they have no fault that no further bytes undo
abbrev pub Reads : List ℕ → UpdateReader → Type 0
Reads bytes reader = Lists reader.walk reader.rows bytes × (reader.fed ≡ length bytes)

-- what a piece leads to: all came, or a fault that no further bytes undo; without memory all is as before
abbrev pub IsFed : List ℕ → List ℕ → UpdateReader → Result (Unit {0}) FileAnswer → Type 0
IsFed bytes piece reader (Ok _) =
    Reads (bytes ++ piece) reader × ((offset : ℕ) (cause : FileCause) → IsSettled (bytes ++ piece) offset cause → ⊥)
IsFed bytes piece reader (Err (Fault fault)) = IsSettled (bytes ++ piece) fault.offset fault.cause
IsFed bytes piece reader (Err NoMemory) = Reads bytes reader

-- no more bytes come: the rows are those of the file, or it has this fault
abbrev pub IsFinished : List ℕ → Result UpdateRows FileFault → Type 0
IsFinished bytes (Ok kept) = (us : List FileUpdate) × IntelFile bytes us × AreUpdateRows us kept
IsFinished bytes (Err fault) = IsFault bytes fault.offset fault.cause
