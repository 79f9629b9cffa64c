-- What the read of a file gave.
use Rattle.std.specs.Prelude.{◌≡◌, ℕ, ◌<◌, ◌≤◌, List, length, Vec, Result, Ok, Err}
use Rattle.std.specs.declared.alloc.Global.{Global}
use Rattle.uc_io.specs.declared.files.ReadAnswer.{ReadAnswer}
use Rattle.uc_io.specs.declared.files.ReadAnswer.TheVariants.{Failed, TooLong, NoMemory}
use Rattle.uc_io.specs.Faults.{Rose}

-- the bytes that the file holds, where that is told; or why there are none. Only a failed read raises the count of
-- faults.
abbrev pub IsReadOf : Type 0 → List ℕ → ℕ → ℕ → ℕ → Result (Vec ℕ Global) ReadAnswer → Type 0
IsReadOf tells held limit before now (Ok bytes) =
    (now ≡ before) × (length bytes.items ≤ limit) × (tells → bytes.items ≡ held)
IsReadOf tells held limit before now (Err Failed) = Rose before now
IsReadOf tells held limit before now (Err (TooLong taken)) =
    (now ≡ before) × (limit < taken) × (tells → limit < length held)
IsReadOf tells held limit before now (Err NoMemory) = now ≡ before
