-- How kept files stand for what a catalogue holds.
use Rattle.std.specs.Prelude.{◌≡◌, ℕ, ◌+◌, ◌^◌, ◌<◌, ◌≤◌, Bool, List, [], ◌∷◌, ◌++◌, length, map, slice_index_or, All, Option, Some, None, Result, Ok, Err}
use Rattle.uc_bytes.specs.declared.causes.FileAnswer.{FileAnswer}
use Rattle.uc_bytes.specs.declared.causes.FileAnswer.TheVariants.{Fault, NoMemory}
use Rattle.entry_model.specs.Reading.{Reading, IsReading, HasFault}
use Rattle.entry_model.specs.Entry.{Entry}
use Rattle.file_rows.specs.UpdateRows.{facts_of_update}
use Rattle.file_rows.specs.PatchRows.{facts_of_patch}
use Rattle.file_rows.specs.FileRows.{vendor_of, count_of, entries_of_rows, StandRows, AreRowsOf, HasFewPairs}
use Rattle.file_rows.specs.declared.rows.FileRows.{FileRows}
use Rattle.uc_catalog.specs.Contents.{FileSum, Contents}
use Rattle.uc_catalog.specs.Coming.{ComesIn}
use Rattle.uc_catalog.specs.declared.coming.Coming.{Coming}
use Rattle.uc_catalog.specs.declared.file.KeptFile.{KeptFile}
use Rattle.uc_catalog.specs.declared.place.Place.{Place}
use Rattle.uc_catalog.specs.declared.found.Found.{Found}
use Rattle.uc_catalog.specs.declared.found.Found.TheVariants as found

-- the vendor and number of entries of a file
abbrev pub sum_of_rows : FileRows → FileSum
sum_of_rows rows = record { vendor = vendor_of rows; entries = count_of rows }

-- the entries of a file with this number
abbrev pub entries_of_file : ℕ → KeptFile → List Entry
entries_of_file number file = entries_of_rows number file.bytes.items file.rows

-- the entries of files that are numbered from a number on
abbrev pub entries_in : ℕ → List KeptFile → List Entry
entries_in number [] = []
entries_in number (file ∷ files) = entries_of_file number file ++ entries_in (number + 1) files

-- what files stand for
abbrev pub contents_of : Bool → List KeptFile → Option Coming → Contents
contents_of keeps files coming = record {
  keeps = keeps;
  files = map (λ file. sum_of_rows file.rows) files;
  entries = entries_in 0 files;
  coming = coming;
}

-- some bytes came of the file that is being read
abbrev pub IsComing : Bool → Option Coming → Type 0
IsComing keeps None = Unit {0}
IsComing keeps (Some coming) = (bytes : List ℕ) × ComesIn keeps bytes coming

-- what the rows of each file speak of stands, and there are at most 16 files
pub record AreKept (keeps : Bool) (files : List KeptFile) : Type 0 where
  pub few : length files ≤ 16
  pub stand : All (λ file. StandRows keeps file.bytes.items file.rows) files

-- the rows are those of the file, or it has this fault
abbrev pub IsFileKept : List ℕ → Result FileRows FileAnswer → Type 0
IsFileKept bytes (Ok rows) = ((reading : Reading) × IsReading bytes reading × AreRowsOf reading rows) × HasFewPairs rows
IsFileKept bytes (Err (Fault fault)) = HasFault bytes fault.offset fault.cause
IsFileKept bytes (Err NoMemory) = Unit {0}

-- an entry stands in this file and row
pub record IsPlace (files : List KeptFile) (entry : ℕ) (place : Place) : Type 0 where
  pub file : place.file < length files
  pub row : (d : KeptFile) → place.row < count_of (slice_index_or files place.file d).rows
  pub is : (d : KeptFile) (e : Entry) → slice_index_or (entries_in 0 files) entry e ≡ slice_index_or (entries_of_file place.file (slice_index_or files place.file d)) place.row e

-- what an entry is found as
abbrev pub IsFound : Entry → Found → Type 0
IsFound entry (found.Update file row pairs) =
    (entry.facts ≡ facts_of_update file row.now) × (entry.pairs ≡ (row.now.sig, row.now.flags) ∷ pairs.now) × (entry.rows ≡ []) × (1 + length pairs.now < 2 ^ 32)
IsFound entry (found.Patch file row index) =
    (entry.facts ≡ facts_of_patch file row.now) × (entry.pairs ≡ []) × (entry.rows ≡ index.now)
