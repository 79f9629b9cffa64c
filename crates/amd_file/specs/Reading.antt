-- What the reading of a file gives.
use Rattle.std.specs.Prelude.{◌≡◌, ℕ, ◌+◌, List, [], ◌∷◌, ◌++◌, length, drop, Vec, Result, Ok, Err}
use Rattle.std.specs.declared.alloc.Global.{Global}
use Rattle.uc_bytes.specs.declared.causes.FileAnswer.{FileAnswer}
use Rattle.uc_bytes.specs.declared.causes.FileAnswer.TheVariants.{Fault, NoMemory}
use Rattle.amd_format.specs.File.{FileContainer, AmdFile, container_bytes}
use Rattle.amd_format.specs.Checks.{IsFault}
use Rattle.amd_file.specs.declared.container.AmdPatch.{AmdPatch}
use Rattle.amd_file.specs.declared.container.AmdContainer.{AmdContainer}
use Rattle.amd_file.specs.Patches.{patches_at}

-- a container as it is listed: not at all where it has no patches
abbrev pub listed_with : ℕ → ℕ → List AmdPatch → List AmdContainer
listed_with start table_len [] = []
listed_with start table_len (patch ∷ patches) =
    record { start = start; table_len = table_len; patches = patch ∷ patches } ∷ []

-- the containers as they are listed, the first of them at a place
abbrev pub listed : ℕ → List FileContainer → List AmdContainer
listed start [] = []
listed start (c ∷ cs) =
    listed_with start (length (drop 12 c.equiv)) (patches_at (start + length c.equiv) c.sections) ++ listed (start + length (container_bytes c)) cs

-- the file's containers that have a patch, or its first fault
abbrev pub IsFileRead : List ℕ → Result (Vec AmdContainer Global) FileAnswer → Type 0
IsFileRead bytes (Ok containers) = (cs : List FileContainer) × AmdFile bytes cs × (containers.items ≡ listed 0 cs)
IsFileRead bytes (Err (Fault fault)) = IsFault bytes fault.offset fault.cause
IsFileRead bytes (Err NoMemory) = Unit {0}
