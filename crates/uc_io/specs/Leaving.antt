-- What a call that reads leaves of the files.
use Rattle.std.specs.Prelude.{◌≡◌, ℕ, ◌≤◌, List}

-- Each name holds what it held, files that told what is left still tell it, and the count of faults did not fall.
pub record LeavesFiles {F : Type 0} (holds : F → List ℕ → List ℕ) (tells : F → Type 0) (faults : F → ℕ) (old new : F)
    : Type 0 where
  pub same : holds new ≡ holds old
  pub still : tells old → tells new
  pub later : faults old ≤ faults new
