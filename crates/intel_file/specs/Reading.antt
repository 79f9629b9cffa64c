-- What the reading of a file gives.
use Rattle.std.specs.Prelude.{◌≡◌, ℕ, ◌+◌, List, [], ◌∷◌, length, Vec, Result, Ok, Err}
use Rattle.std.specs.declared.alloc.Global.{Global}
use Rattle.uc_bytes.specs.declared.causes.FileAnswer.{FileAnswer}
use Rattle.uc_bytes.specs.declared.causes.FileAnswer.TheVariants.{Fault, NoMemory}
use Rattle.intel_format.specs.File.{FileUpdate, IntelFile, IsFault}
use Rattle.intel_file.specs.declared.file.IntelUpdate.{IntelUpdate}

-- the updates as they are listed, the first of them at a place
abbrev pub listed : ℕ → List FileUpdate → List IntelUpdate
listed start [] = []
listed start (u ∷ us) =
    record { start = start; len = length u.bytes; header = u.header; pairs = length u.pairs } ∷ listed (start + length u.bytes) us

-- the file's updates, or its first fault
abbrev pub IsFileRead : List ℕ → Result (Vec IntelUpdate Global) FileAnswer → Type 0
IsFileRead bytes (Ok updates) = (us : List FileUpdate) × IntelFile bytes us × (updates.items ≡ listed 0 us)
IsFileRead bytes (Err (Fault fault)) = IsFault bytes fault.offset fault.cause
IsFileRead bytes (Err NoMemory) = Unit {0}
