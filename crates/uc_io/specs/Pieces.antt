-- What the taking of a piece gave, and what the opening of a file did.
use Rattle.std.specs.Prelude.{◌≡◌, ℕ, ◌≤◌, List, [], ◌++◌, length, take, Result, Ok, Err}
use Rattle.uc_io.specs.declared.pieces.PieceFailed.{PieceFailed}
use Rattle.uc_io.specs.declared.files.OpenAnswer.{OpenAnswer}
use Rattle.uc_io.specs.declared.files.OpenAnswer.TheVariants.{Failed, NoMemory}
use Rattle.uc_io.specs.Faults.{Rose}

-- the front of what was left was moved into a buffer, none of it only at the end; or nothing was taken, and the count
-- of faults rose
abbrev pub IsPieceOf : Type 0 → List ℕ → List ℕ → ℕ → ℕ → List ℕ → Result ℕ PieceFailed → Type 0
IsPieceOf tells old new before now into (Ok taken) =
    (now ≡ before) × (taken ≤ length into)
    × (tells → old ≡ take taken into ++ new) × (tells → taken ≡ 0 → old ≡ [])
IsPieceOf tells old new before now into (Err failed) = Rose before now × (tells → new ≡ old)

-- what the file holds is left to be taken; or nothing is. Only a failure raises the count of faults.
abbrev pub IsOpened : Type 0 → List ℕ → List ℕ → ℕ → ℕ → Result (Unit {0}) OpenAnswer → Type 0
IsOpened tells held left before now (Ok done) = (now ≡ before) × (tells → left ≡ held)
IsOpened tells held left before now (Err Failed) = Rose before now × (tells → left ≡ [])
IsOpened tells held left before now (Err NoMemory) = (now ≡ before) × (tells → left ≡ [])
