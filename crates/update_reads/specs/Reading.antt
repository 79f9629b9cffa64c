-- What the reading of update files gave. Where the files tell what they hold, that is what was read.
use Rattle.std.specs.Prelude.{◌≡◌, ℕ, suc, ◌≤◌, List, length, None, Result, Ok, Err}
use Rattle.uc_io.specs.Faults.{Rose}
use Rattle.uc_bytes.specs.declared.causes.FileFault.{FileFault}
use Rattle.entry_model.specs.Reading.{Reading}
use Rattle.uc_catalog.specs.Contents.{Contents, IsOfReadings, Adds, with_coming}
use Rattle.uc_bytes.specs.declared.TheConstants.{FILE_LIMIT}
use Rattle.read_model.specs.Accepts.{Refuses, AreAccepted}
use Rattle.read_model.specs.Reads.{Read, names_of, files_of, AreHeld, Reads, NotRead, Refused}
use Rattle.update_reads.specs.declared.answers.UpdateAnswer.{UpdateAnswer}
use Rattle.update_reads.specs.declared.answers.UpdateAnswer.TheVariants as update
use Rattle.update_reads.specs.declared.answers.FilesAnswer.{FilesAnswer}
use Rattle.update_reads.specs.declared.answers.FilesAnswer.TheVariants as files

-- the answer on files of which the one in a place got an answer
abbrev pub in_place : ℕ → UpdateAnswer → FilesAnswer
in_place place update.ReadFault = files.Unread place
in_place place (update.BadFile fault) = files.Refused place fault
in_place place update.NoMemory = files.NoMemory

-- the file stands in the catalogue, or is refused and the files and entries are as they were; no file is being read
-- then. Only a failed read raises the count of faults.
abbrev pub IsUpdateRead : Type 0 → List ℕ → ℕ → ℕ → Contents → Contents → Result (Unit {0}) UpdateAnswer → Type 0
IsUpdateRead tells held before now old new (Ok _) =
    (now ≡ before)
    × ((bytes : List ℕ) × (length bytes ≤ FILE_LIMIT) × (tells → bytes ≡ held) × Adds old new bytes × (new.coming ≡ None))
IsUpdateRead tells held before now old new (Err update.ReadFault) = Rose before now × (new ≡ with_coming None old)
IsUpdateRead tells held before now old new (Err (update.BadFile fault)) =
    (now ≡ before) × ((bytes : List ℕ) × (tells → bytes ≡ held) × Refuses bytes fault.offset fault.cause)
    × (new ≡ with_coming None old)
IsUpdateRead tells held before now old new (Err update.NoMemory) = (now ≡ before) × (new ≡ with_coming None old)

-- the catalogue is that of the files that were read under these names
pub record IsOfFiles (tells : Type 0) (names : List (List ℕ)) (holds : List ℕ → List ℕ) (contents : Contents)
    : Type 0 where
  pub reads : List Read
  pub held : tells → AreHeld holds reads
  pub in_order : names_of reads ≡ names
  pub readings : List Reading
  pub accepted : AreAccepted (files_of reads) readings
  pub of : IsOfReadings contents readings

-- those in front of a place were read and accepted, and the file in this place could not be read
pub record UnreadAt (tells : Type 0) (names : List (List ℕ)) (holds : List ℕ → List ℕ) (file : ℕ) : Type 0 where
  pub reads : List Read
  pub held : tells → AreHeld holds reads
  pub name : List ℕ
  pub come : Reads names reads (NotRead name)
  pub place : length reads ≡ file

-- or it was read, and is refused
pub record RefusedAt (tells : Type 0) (names : List (List ℕ)) (holds : List ℕ → List ℕ) (file : ℕ) (fault : FileFault)
    : Type 0 where
  pub reads : List Read
  pub held : tells → AreHeld holds reads
  pub name : List ℕ
  pub come : Reads names reads (Refused name fault.offset fault.cause)
  pub place : length reads ≡ suc file

-- all files stand in the catalogue, or the first that is not read or is refused decides
abbrev pub AreFilesRead : Type 0 → List (List ℕ) → (List ℕ → List ℕ) → ℕ → ℕ → Result Contents FilesAnswer → Type 0
AreFilesRead tells names holds before now (Ok contents) = (now ≡ before) × IsOfFiles tells names holds contents
AreFilesRead tells names holds before now (Err (files.Unread file)) = Rose before now × UnreadAt tells names holds file
AreFilesRead tells names holds before now (Err (files.Refused file fault)) = (now ≡ before)
    × RefusedAt tells names holds file fault
AreFilesRead tells names holds before now (Err files.NoMemory) = now ≡ before
