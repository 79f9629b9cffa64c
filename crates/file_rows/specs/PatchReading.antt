-- What the reader of an AMD file knows of the bytes that came.
use Rattle.std.specs.Prelude.{◌≡◌, ℕ, false, List, ◌++◌, Result, Ok, Err}
use Rattle.uc_bytes.specs.declared.causes.FileCause.{FileCause}
use Rattle.uc_bytes.specs.declared.causes.FileFault.{FileFault}
use Rattle.uc_bytes.specs.declared.causes.FileAnswer.{FileAnswer}
use Rattle.uc_bytes.specs.declared.causes.FileAnswer.TheVariants.{Fault, NoMemory}
use Rattle.amd_format.specs.File.{FileContainer, AmdFile}
use Rattle.amd_format.specs.Checks.{IsFault}
use Rattle.amd_format.specs.Settled.{IsSettled}
use Rattle.amd_file.specs.Parser.{fed_of as parsed_of}
use Rattle.file_rows.specs.PatchRows.{ArePatchRows}
use Rattle.file_rows.specs.PatchWalk.{Gathers}
use Rattle.file_rows.specs.declared.patches.PatchRows.{PatchRows}
use Rattle.file_rows.specs.declared.patch_reader.PatchReader.{PatchReader}

-- these bytes came to the reader, in whole pieces
abbrev pub Reads : List ℕ → PatchReader → Type 0
Reads bytes reader = Gathers bytes reader.parser reader.gathered × (reader.gathered.begun ≡ false)

-- how many bytes came
abbrev pub fed_of : PatchReader → ℕ
fed_of reader = parsed_of reader.parser

-- what a piece leads to: all came, or a fault that no further bytes undo; without memory all is as before
abbrev pub IsFed : List ℕ → List ℕ → PatchReader → Result (Unit {0}) FileAnswer → Type 0
IsFed bytes piece reader (Ok _) =
    Reads (bytes ++ piece) reader × ((offset : ℕ) (cause : FileCause) → IsSettled (bytes ++ piece) offset cause → ⊥)
IsFed bytes piece reader (Err (Fault fault)) = IsSettled (bytes ++ piece) fault.offset fault.cause
IsFed bytes piece reader (Err NoMemory) = Reads bytes reader

-- no more bytes come: the rows are those of the file, or it has this fault
abbrev pub IsFinished : List ℕ → Result PatchRows FileFault → Type 0
IsFinished bytes (Ok kept) = (cs : List FileContainer) × AmdFile bytes cs × ArePatchRows cs kept
IsFinished bytes (Err fault) = IsFault bytes fault.offset fault.cause
