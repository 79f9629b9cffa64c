-- What a catalogue holds.
use Rattle.std.specs.Prelude.{◌≡◌, ℕ, ◌*◌, ◌≤◌, Bool, List, [], ◌∷◌, ◌++◌, length, map, sum_by, slice_index_or, Option, None, Result, Ok, Err}
use Rattle.uc_bytes.specs.declared.causes.Vendor.{Vendor}
use Rattle.uc_bytes.specs.declared.causes.Vendor.TheVariants.{Intel, Amd}
use Rattle.uc_bytes.specs.declared.causes.FileAnswer.{FileAnswer}
use Rattle.uc_bytes.specs.declared.causes.FileAnswer.TheVariants.{Fault, NoMemory}
use Rattle.amd_format.specs.File.{patches_in}
use Rattle.entry_model.specs.Reading.{Reading, OfIntel, OfAmd, IsReading, HasFault}
use Rattle.entry_model.specs.Entry.{Entry, patch_entry, entries_of, entries_from}
pub use Rattle.file_rows.specs.Kept.{kept, kept_bytes}
use Rattle.file_rows.specs.FileReading.{IsSettled, IsUnsettled}
use Rattle.uc_catalog.specs.declared.coming.Coming.{Coming}
use Rattle.uc_catalog.specs.Coming.{ComesBy, fed_by}

-- a file: its vendor, and how many entries it has
pub record FileSum : Type 0 where
  pub vendor : Vendor
  pub entries : ℕ

abbrev pub sum_of : Reading → FileSum
sum_of (OfIntel updates) = record { vendor = Intel; entries = length updates }
sum_of (OfAmd containers) = record { vendor = Amd; entries = patches_in containers }

-- whether the bytes of files are kept, the files, the entries of all of them, and the file that is being read, if
-- pieces of one came
pub record Contents : Type 0 where
  pub keeps : Bool
  pub files : List FileSum
  pub entries : List Entry
  pub coming : Option Coming

-- no file yet
abbrev pub no_files : Bool → Contents
no_files keeps = record { keeps = keeps; files = []; entries = []; coming = None }

-- a file, by its number
abbrev pub file_at : Contents → ℕ → FileSum
file_at contents f = slice_index_or contents.files f (record { vendor = Intel; entries = 0 })

-- an entry, by its number: one of no meaning past the last
abbrev pub entry_at : Contents → ℕ → Entry
entry_at contents i =
    slice_index_or contents.entries i (patch_entry 0 0 [] [])

-- the entries are as many as the files have, of which there are at most 16, and each file has at most 65,536
pub record IsCounted (contents : Contents) : Type 0 where
  pub all : length contents.entries ≡ sum_by (λ file. file.entries) contents.files
  pub few_files : length contents.files ≤ 16
  pub few_entries : length contents.entries ≤ 65536 * length contents.files

-- the files are those of the readings, and the entries are all of theirs
pub record IsOfReadings (contents : Contents) (readings : List Reading) : Type 0 where
  pub files : contents.files ≡ map sum_of readings
  pub entries : contents.entries ≡ map (kept contents.keeps) (entries_from 0 readings)

-- the file stands behind the old ones, and its entries behind theirs
pub record Adds (old new : Contents) (bytes : List ℕ) : Type 0 where
  pub reading : Reading
  pub is_reading : IsReading bytes reading
  pub keeps : new.keeps ≡ old.keeps
  pub files : new.files ≡ old.files ++ sum_of reading ∷ []
  pub entries : new.entries ≡ old.entries ++ map (kept old.keeps) (entries_of (length old.files) reading)

-- the file is added; or it has this fault, or memory ran out, and nothing changes
abbrev pub IsAdded : Contents → Contents → List ℕ → Result (Unit {0}) FileAnswer → Type 0
IsAdded old new bytes (Ok _) = Adds old new bytes × (new.coming ≡ old.coming)
IsAdded old new bytes (Err (Fault fault)) =
    HasFault bytes fault.offset fault.cause × (new ≡ old)
IsAdded old new bytes (Err NoMemory) = new ≡ old

-- the same files and entries, but for the file that is being read
abbrev pub with_coming : Option Coming → Contents → Contents
with_coming coming contents = record contents { coming = coming }

-- these bytes of the file that is being read came
abbrev pub Comes : List ℕ → Contents → Type 0
Comes bytes contents = ComesBy contents.keeps bytes contents.coming

-- how many came, up to the piece with a fault that no further bytes undo
abbrev pub fed_of : Contents → ℕ
fed_of contents = fed_by contents.coming

-- what a piece leads to: a fault that no further bytes undo, exactly where there is one; without memory the bytes are
-- those that came before
abbrev pub IsFed : List ℕ → List ℕ → Contents → Result (Unit {0}) FileAnswer → Type 0
IsFed bytes piece new (Ok _) = Comes (bytes ++ piece) new × IsUnsettled (bytes ++ piece)
IsFed bytes piece new (Err (Fault fault)) =
    Comes (bytes ++ piece) new × IsSettled (bytes ++ piece) fault.offset fault.cause
IsFed bytes piece new (Err NoMemory) = Comes bytes new

-- The file that was read is added, or it has this fault; no file is being read then. Without memory nothing changes.
abbrev pub IsEnded : Contents → Contents → List ℕ → Result (Unit {0}) FileAnswer → Type 0
IsEnded old new bytes (Ok _) = Adds old new bytes × (new.coming ≡ None)
IsEnded old new bytes (Err (Fault fault)) =
    HasFault bytes fault.offset fault.cause × (new ≡ with_coming None old)
IsEnded old new bytes (Err NoMemory) = new ≡ old
