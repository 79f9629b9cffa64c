-- What a stream knows of the bytes that came.
use Rattle.std.specs.Prelude.{◌≡◌, ℕ, List, ◌++◌, length, Option, Some, None, Result, Ok, Err}
use Rattle.uc_bytes.specs.declared.causes.FileCause.{FileCause}
use Rattle.uc_bytes.specs.declared.causes.FileFault.{FileFault}
use Rattle.uc_bytes.specs.declared.causes.FileAnswer.{FileAnswer}
use Rattle.uc_bytes.specs.declared.causes.FileAnswer.TheVariants.{Fault, NoMemory}
use Rattle.intel_format.specs.File.{FileUpdate}
use Rattle.intel_format.specs.Settled.{IsSettled}
use Rattle.intel_file.specs.declared.file.IntelUpdate.{IntelUpdate}
use Rattle.intel_file.specs.declared.walk.IntelWalk.{IntelWalk}
use Rattle.intel_file.specs.declared.stream.IntelStream.{IntelStream}
use Rattle.intel_file.specs.Reading.{listed}
use Rattle.intel_file.specs.Walk as walk

-- these bytes came to the walk, and the updates among them that came whole are listed
pub record Lists (w : IntelWalk) (items : List IntelUpdate) (bytes : List ℕ) : Type 0 where
  pub updates : List FileUpdate
  pub pairs : List (ℕ × ℕ)
  pub stands : walk.Stands w bytes updates pairs
  pub lists : items ≡ listed 0 updates

-- what a walk over a piece leads to, which these bytes end with
abbrev pub IsWalked : List ℕ → IntelWalk → List IntelUpdate → Result (Option FileFault) FileAnswer → Type 0
IsWalked bytes w items (Ok None) = Lists w items bytes
IsWalked bytes w items (Ok (Some fault)) = IsSettled bytes fault.offset fault.cause
IsWalked bytes w items (Err answer) = Unit {0}

-- a fault that stands is settled; else all bytes came to the walk
abbrev pub StandsWith : List ℕ → IntelWalk → List IntelUpdate → ℕ → Option FileFault → Type 0
StandsWith bytes w items fed None = Lists w items bytes × (fed ≡ length bytes)
StandsWith bytes w items fed (Some fault) = IsSettled bytes fault.offset fault.cause

-- these bytes came to the stream
abbrev pub Stands : List ℕ → IntelStream → Type 0
Stands bytes stream = StandsWith bytes stream.walk stream.updates.items stream.fed stream.fault

-- how many bytes came, up to the piece with a settled fault
abbrev pub fed_of : IntelStream → ℕ
fed_of stream = stream.fed

-- what a piece leads to: a settled fault, or none; without memory the stream is as it was
abbrev pub IsFed : List ℕ → List ℕ → IntelStream → Result (Unit {0}) FileAnswer → Type 0
IsFed bytes piece stream (Ok _) =
    Stands (bytes ++ piece) stream × ((offset : ℕ) (cause : FileCause) → IsSettled (bytes ++ piece) offset cause → ⊥)
IsFed bytes piece stream (Err (Fault fault)) =
    Stands (bytes ++ piece) stream × IsSettled (bytes ++ piece) fault.offset fault.cause
IsFed bytes piece stream (Err NoMemory) = Stands bytes stream
