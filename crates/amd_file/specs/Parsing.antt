-- What is told of a file while its bytes come, and how far they reach.
use Rattle.std.specs.Prelude.{◌≡◌, ◌≢◌, ◌⊎◌, ◌↔◌, ℕ, ◌+◌, ◌*◌, ◌<◌, ◌≤◌, IsTrue, List, [], ◌∷◌, ◌++◌, length, drop, map, ◌^◌, Option, Some, None}
use Rattle.uc_bytes.specs.Words.{word}
use Rattle.uc_bytes.specs.declared.causes.FileCause.{FileCause}
use Rattle.uc_bytes.specs.declared.causes.FileFault.{FileFault}
use Rattle.amd_format.specs.Equiv.{amd_magic, rows_of}
use Rattle.amd_format.specs.Patch.{patch_rev, patch_id, north_device, south_device}
use Rattle.amd_format.specs.File.{FileContainer, AreContainers, AmdFile, container_bytes, joined, patches_in}
use Rattle.amd_format.specs.Checks.{BeginsContainer, IsFault}
use Rattle.amd_format.specs.Settled.{IsSettled}
use Rattle.amd_file.specs.declared.part.AmdHead.{AmdHead}
use Rattle.amd_file.specs.declared.part.AmdPart.{AmdPart}
use Rattle.amd_file.specs.declared.part.AmdPart.TheVariants.{More, Container, Row, Patch, Fault}
use Rattle.amd_file.specs.declared.progress.PatchHeader.{PatchHeader}
use Rattle.amd_file.specs.declared.progress.Stage.{Stage}
use Rattle.amd_file.specs.declared.progress.Stage.TheVariants.{Head, Next, Rows, Tail, Header, Body, Failed}
use Rattle.amd_file.specs.declared.progress.Progress.{Progress}
use Rattle.amd_file.specs.Patches.{patches_at}

-- the head of a container that begins at a place
abbrev pub head_at : ℕ → ℕ → AmdHead
head_at start table_len = record { start = start; table_len = table_len }

-- what is told of a container's head and its rows
abbrev pub told_of_table : ℕ → ℕ → List (ℕ × ℕ) → List AmdPart
told_of_table start table_len rows =
    Container (head_at start table_len) ∷ map Row rows

-- what is told of containers, the first of which begins at a place
abbrev pub told_of : ℕ → List FileContainer → List AmdPart
told_of start [] = []
told_of start (c ∷ cs) =
    told_of_table start (length (drop 12 c.equiv)) (rows_of c.equiv)
    ++ (map Patch (patches_at (start + length c.equiv) c.sections) ++ told_of (start + length (container_bytes c)) cs)

-- the bytes are whole containers and a rest
pub record Came (bytes : List ℕ) (fed start patches : ℕ) (rest : List ℕ) : Type 0 where
  pub containers : List FileContainer
  pub split : bytes ≡ joined containers ++ rest
  pub each : AreContainers containers
  pub few : patches_in containers ≤ 65536
  pub all : fed ≡ length bytes
  pub place : start ≡ length (joined containers)
  pub counts : patches ≡ patches_in containers

-- a container's head, and whole rows of its table
pub record IsTableFront (front : List ℕ) : Type 0 where
  pub count : ℕ
  pub long : length front ≡ 12 + 16 * count
  pub magic : word front 0 ≡ amd_magic
  pub kind : word front 4 ≡ 0
  pub some_row : 16 ≤ word front 8

-- the head of a section with a patch of so many bytes
pub record IsSectionFront (front : List ℕ) (size : ℕ) : Type 0 where
  pub long : length front ≡ 8
  pub kind : word front 0 ≡ 1
  pub states : word front 4 ≡ size
  pub least : 64 ≤ size

-- the header that begins the bytes of a patch
pub record IsHeaderOf (patch : List ℕ) (header : PatchHeader) : Type 0 where
  pub long : 64 ≤ length patch
  pub rev : header.rev ≡ patch_rev patch
  pub id : header.id ≡ patch_id patch
  pub for_chipset : IsTrue header.for_chipset ↔ ((north_device patch ≢ 0) ⊎ (south_device patch ≢ 0))

-- the bytes end within a container's head, of which these are held
pub record IsInHead (bytes : List ℕ) (told : List AmdPart) (fed start patches : ℕ) (held : List ℕ) : Type 0 where
  pub came : Came bytes fed start patches held
  pub begins : BeginsContainer came.containers held
  pub parts : told ≡ told_of 0 came.containers

-- they end behind whole containers, and these are held
pub record IsInNext (bytes : List ℕ) (told : List AmdPart) (fed start patches : ℕ) (held : List ℕ) : Type 0 where
  pub came : Came bytes fed start patches held
  pub some : 0 < length came.containers
  pub parts : told ≡ told_of 0 came.containers

-- they end in a row of a table, of which these are held
pub record IsInRows (bytes : List ℕ) (told : List AmdPart) (fed start patches more tail : ℕ) (held : List ℕ) : Type 0 where
  pub front : List ℕ
  pub came : Came bytes fed start patches (front ++ held)
  pub table : IsTableFront front
  pub size : length front + 16 * (more + 1) + tail ≡ 12 + word front 8
  pub short : tail < 16
  pub parts : told ≡ told_of 0 came.containers ++ told_of_table start (word front 8) (rows_of front)

-- they end behind the rows of a table
pub record IsInTail (bytes : List ℕ) (told : List AmdPart) (fed start patches left : ℕ) (held : List ℕ) : Type 0 where
  pub front : List ℕ
  pub passed : List ℕ
  pub came : Came bytes fed start patches ((front ++ passed) ++ held)
  pub table : IsTableFront front
  pub size : length front + length passed + left + 1 ≡ 12 + word front 8
  pub short : length passed + left + 1 < 16
  pub parts : told ≡ told_of 0 came.containers ++ told_of_table start (word front 8) (rows_of front)

-- they end in the header of a patch, of which these are held
pub record IsInHeader (bytes : List ℕ) (told : List AmdPart) (fed start patches size : ℕ) (held : List ℕ) : Type 0 where
  pub front : List ℕ
  pub came : Came bytes fed start patches (front ++ held)
  pub some : 0 < length came.containers
  pub section : IsSectionFront front size
  pub parts : told ≡ told_of 0 came.containers

-- they end behind the header of a patch
pub record IsInBody (bytes : List ℕ) (told : List AmdPart) (fed start patches : ℕ) (header : PatchHeader) (left : ℕ) (held : List ℕ) : Type 0 where
  pub front : List ℕ
  pub patch : List ℕ
  pub came : Came bytes fed start patches ((front ++ patch) ++ held)
  pub some : 0 < length came.containers
  pub section : IsSectionFront front header.len
  pub is_header : IsHeaderOf patch header
  pub size : length patch + left + 1 ≡ header.len
  pub parts : told ≡ told_of 0 came.containers

-- they have a fault that no further bytes undo
pub record IsFailed (bytes : List ℕ) (fed : ℕ) (fault : FileFault) : Type 0 where
  pub all : fed ≡ length bytes
  pub settled : IsSettled bytes fault.offset fault.cause

-- these bytes came, and these parts were told of them; some bytes are held
abbrev pub StandsAt : Stage → List ℕ → List AmdPart → ℕ → ℕ → ℕ → List ℕ → Type 0
StandsAt Head bytes told fed start patches held = IsInHead bytes told fed start patches held
StandsAt Next bytes told fed start patches held = IsInNext bytes told fed start patches held
StandsAt (Rows more tail) bytes told fed start patches held = IsInRows bytes told fed start patches more tail held
StandsAt (Tail left) bytes told fed start patches held = IsInTail bytes told fed start patches left held
StandsAt (Header size) bytes told fed start patches held = IsInHeader bytes told fed start patches size held
StandsAt (Body header left) bytes told fed start patches held = IsInBody bytes told fed start patches header left held
StandsAt (Failed fault) bytes told fed start patches held = IsFailed bytes fed fault

abbrev pub StandsWith : List ℕ → List AmdPart → Progress → List ℕ → Type 0
StandsWith bytes told progress held =
    StandsAt progress.stage bytes told progress.fed progress.start progress.patches held

-- what came is told behind what was told before; a fault is settled
abbrev pub IsTold : List ℕ → List AmdPart → Progress → List ℕ → AmdPart → Type 0
IsTold bytes told progress held More = StandsWith bytes told progress held
IsTold bytes told progress held (Fault fault) =
    StandsWith bytes told progress held × IsSettled bytes fault.offset fault.cause
IsTold bytes told progress held part = StandsWith bytes (told ++ part ∷ []) progress held

-- a patch is shorter than 4 GiB, and a container begins within the bytes that came
abbrev pub IsInside : ℕ → AmdPart → Type 0
IsInside fed (Container head) = head.start ≤ fed
IsInside fed (Patch patch) = (patch.start ≤ fed + 8) × (patch.len < 2 ^ 32)
IsInside fed part = Unit {0}

-- the fault that no further bytes undo, or that there is none
abbrev pub IsSettledFault : List ℕ → Option FileFault → Type 0
IsSettledFault bytes (Some fault) = IsSettled bytes fault.offset fault.cause
IsSettledFault bytes None = (offset : ℕ) (cause : FileCause) → IsSettled bytes offset cause → ⊥

-- the bytes are a file of which these parts were told, or have this fault
abbrev pub IsEnded : List ℕ → List AmdPart → Option FileFault → Type 0
IsEnded bytes told (Some fault) = IsFault bytes fault.offset fault.cause
IsEnded bytes told None = (cs : List FileContainer) × AmdFile bytes cs × (told ≡ told_of 0 cs)
