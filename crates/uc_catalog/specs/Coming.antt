-- What is known of the bytes of a file that is being read.
use Rattle.std.specs.Prelude.{◌≡◌, ℕ, Bool, List, [], ◌++◌, Option, Some, None, Result, Ok, Err}
use Rattle.uc_bytes.specs.declared.causes.FileFault.{FileFault}
use Rattle.uc_bytes.specs.declared.causes.FileAnswer.{FileAnswer}
use Rattle.uc_bytes.specs.declared.causes.FileAnswer.TheVariants.{Fault, NoMemory}
use Rattle.entry_model.specs.Reading.{HasFault}
use Rattle.file_rows.specs.Kept.{kept_bytes}
use Rattle.file_rows.specs.FileReading.{Reads, IsSettled, IsUnsettled, fed_of}
use Rattle.file_rows.specs.FileRows.{HasFewPairs, IsFinished}
use Rattle.uc_catalog.specs.declared.file.KeptFile.{KeptFile}
use Rattle.uc_catalog.specs.declared.coming.Coming.{Coming}

-- these bytes came, and are kept or not
abbrev pub ComesIn : Bool → List ℕ → Coming → Type 0
ComesIn keeps bytes coming = Reads bytes coming.reader × (coming.bytes.items ≡ kept_bytes keeps bytes)

-- the same of a file of which perhaps nothing came
abbrev pub ComesBy : Bool → List ℕ → Option Coming → Type 0
ComesBy keeps bytes None = bytes ≡ []
ComesBy keeps bytes (Some coming) = ComesIn keeps bytes coming

-- how many bytes came
abbrev pub fed_by : Option Coming → ℕ
fed_by None = 0
fed_by (Some coming) = fed_of coming.reader

-- what a piece leads to
abbrev pub IsFedIn : Bool → List ℕ → List ℕ → Coming → Result (Unit {0}) FileAnswer → Type 0
IsFedIn keeps bytes piece coming (Ok _) = ComesIn keeps (bytes ++ piece) coming × IsUnsettled (bytes ++ piece)
IsFedIn keeps bytes piece coming (Err (Fault fault)) =
    ComesIn keeps (bytes ++ piece) coming × IsSettled (bytes ++ piece) fault.offset fault.cause
IsFedIn keeps bytes piece coming (Err NoMemory) = ComesIn keeps bytes coming

-- no more bytes come: the file is kept, or it has this fault
abbrev pub IsFinishedIn : Bool → List ℕ → Result KeptFile FileFault → Type 0
IsFinishedIn keeps bytes (Ok file) = IsFinished bytes (Ok file.rows) × (file.bytes.items ≡ kept_bytes keeps bytes)
IsFinishedIn keeps bytes (Err fault) = HasFault bytes fault.offset fault.cause

abbrev pub HasFewPairsIn : KeptFile → Type 0
HasFewPairsIn file = HasFewPairs file.rows
