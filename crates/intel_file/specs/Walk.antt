-- How far a walk over a file came.
use Rattle.std.specs.Prelude.{◌≡◌, ℕ, ◌<◌, ◌≤◌, List, [], ◌∷◌, ◌++◌, length, Option, Some, None}
use Rattle.uc_bytes.specs.declared.TheConstants.{FILE_LIMIT}
use Rattle.uc_bytes.specs.declared.causes.FileFault.{FileFault}
use Rattle.intel_format.specs.declared.header.IntelHeader.{IntelHeader}
use Rattle.intel_format.specs.File.{FileUpdate, AreUpdates, joined, IntelFile, IsFault}
use Rattle.intel_format.specs.Settled.{IsCut, IsSettled}
use Rattle.intel_file.specs.declared.walk.IntelWalk.{IntelWalk}
use Rattle.intel_file.specs.declared.walk.What.{What}
use Rattle.intel_file.specs.declared.walk.What.TheVariants.{More, Update, Fault}
use Rattle.intel_file.specs.declared.progress.End.{End}
use Rattle.intel_file.specs.Progress.{IsAt, IsCome}

-- the header that came last
abbrev pub header_in : IntelWalk → IntelHeader
header_in walk = walk.progress.header

-- these bytes came: these updates, and the front of one more, with these pairs of its table
pub record Stands (walk : IntelWalk) (bytes : List ℕ) (us : List FileUpdate) (pairs : List (ℕ × ℕ)) : Type 0 where
  pub done : List ℕ
  pub split : bytes ≡ joined us ++ (done ++ walk.held.items)
  pub each : AreUpdates us
  pub start : walk.start ≡ length (joined us)
  pub count : walk.count ≡ length us
  pub few : length us ≤ 65536
  pub room : 0 < length (done ++ walk.held.items) → length us < 65536
  pub at : IsAt walk.progress done pairs

-- these bytes came: these updates, and what a unit ended of one more
pub record Brought (walk : IntelWalk) (bytes own : List ℕ) (us : List FileUpdate) (pairs : List (ℕ × ℕ)) (end : End)
    : Type 0 where
  pub split : bytes ≡ joined us ++ own
  pub within : length bytes ≤ FILE_LIMIT
  pub some : 0 < length own
  pub each : AreUpdates us
  pub start : walk.start ≡ length (joined us)
  pub count : walk.count ≡ length us
  pub few : length us < 65536
  pub none_held : walk.held.items ≡ []
  pub come : IsCome own pairs walk.progress end

-- what these bytes lead to, of which these updates came before, and these pairs of the table of the next
abbrev pub IsTaken : List ℕ → List FileUpdate → List (ℕ × ℕ) → IntelWalk → What → Type 0
IsTaken bytes us pairs walk More = Stands walk bytes us pairs
IsTaken bytes us pairs walk (Update ended) =
    (own : List ℕ) × Stands walk bytes (us ++ record { bytes = own; header = header_in walk; pairs = pairs } ∷ []) []
    × (ended ≡ record { start = length (joined us); len = length own; pairs = length pairs })
IsTaken bytes us pairs walk (Fault fault) = IsSettled bytes fault.offset fault.cause

-- what the bytes are if no more come: these updates, or cut off
abbrev pub IsEnded : List ℕ → List FileUpdate → Option FileFault → Type 0
IsEnded bytes us None = IntelFile bytes us
IsEnded bytes us (Some fault) = IsFault bytes fault.offset fault.cause × IsCut fault.cause
