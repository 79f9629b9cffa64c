-- Update files that are read one after another.
use Rattle.std.specs.Prelude.{◌≡◌, ℕ, List, [], ◌∷◌, ◌++◌, length, map, All, Option, Some, None}
use Rattle.uc_bytes.specs.declared.causes.FileCause.{FileCause}
use Rattle.entry_model.specs.Reading.{Reading}
use Rattle.read_model.specs.Accepts.{Refuses, AreAccepted}

-- a read: a name, and the bytes that were read under it
pub record Read : Type 0 where
  pub name : List ℕ
  pub bytes : List ℕ

abbrev pub names_of : List Read → List (List ℕ)
names_of reads = map (λ read. read.name) reads

abbrev pub files_of : List Read → List (List ℕ)
files_of reads = map (λ read. read.bytes) reads

-- each read gave what its name holds
abbrev pub AreHeld : (List ℕ → List ℕ) → List Read → Type 0
AreHeld holds reads = All (λ read. read.bytes ≡ holds read.name) reads

-- what the reading of update files came to: all were read and accepted; or the file of a name was not read, or was refused
pub data Outcome : Type 0 where
  AllRead : List Reading → Outcome
  NotRead : List ℕ → Outcome
  Refused : List ℕ → ℕ → FileCause → Outcome

-- the file of a name is come to: those of the names before it were read, in their order, and accepted
pub record ComesTo (names : List (List ℕ)) (reads : List Read) (name : List ℕ) : Type 0 where
  pub rest : List (List ℕ)
  pub in_order : names ≡ names_of reads ++ name ∷ rest
  pub readings : List Reading
  pub accepted : AreAccepted (files_of reads) readings

-- it is come to, and the last of the reads gave bytes that are refused
pub record IsRefused (names : List (List ℕ)) (reads : List Read) (name : List ℕ) (offset : ℕ) (cause : FileCause) : Type 0 where
  pub before : List Read
  pub bytes : List ℕ
  pub last : reads ≡ before ++ record { name = name; bytes = bytes } ∷ []
  pub comes : ComesTo names before name
  pub refuses : Refuses bytes offset cause

-- The files of names are read in the order of the names. The first that cannot be read or is refused decides, and no file
-- behind it is read.
abbrev pub Reads : List (List ℕ) → List Read → Outcome → Type 0
Reads names reads (AllRead readings) = (names_of reads ≡ names) × AreAccepted (files_of reads) readings
Reads names reads (NotRead name) = ComesTo names reads name
Reads names reads (Refused name offset cause) = IsRefused names reads name offset cause

-- where a file cannot be read, how many were read to their ends before, of all that were read in this run
abbrev pub count_of : Outcome → List Read → Option ℕ
count_of (NotRead name) reads = Some (length reads)
count_of outcome reads = None

-- reads of names come to an outcome, and where the files tell what they hold, that is what the reads gave
pub record ReadsOf (tells : Type 0) (holds : List ℕ → List ℕ) (names : List (List ℕ)) (outcome : Outcome) : Type 0 where
  pub reads : List Read
  pub held : tells → AreHeld holds reads
  pub come : Reads names reads outcome

-- the files of names as they are held have an outcome, none of them failing to be read
pub record IsReadable (names : List (List ℕ)) (holds : List ℕ → List ℕ) : Type 0 where
  pub outcome : Outcome
  pub reads : List Read
  pub held : AreHeld holds reads
  pub come : Reads names reads outcome
  pub all_read : count_of outcome reads ≡ None
