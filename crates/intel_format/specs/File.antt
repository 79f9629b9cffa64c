-- What an Intel file is, and its first fault.
use Rattle.std.specs.Prelude.{◌≡◌, ◌<◌, ◌≤◌, ℕ, List, [], ◌∷◌, ◌++◌, length, take}
use Rattle.uc_bytes.specs.declared.causes.FileCause.{FileCause}
use Rattle.intel_format.specs.declared.header.IntelHeader.{IntelHeader}
use Rattle.intel_format.specs.Update.{IsIntelUpdate}
use Rattle.intel_format.specs.Checks.{IsFirstFault}

-- an update of a file: its bytes, its header, and the signatures and flags in its table
pub record FileUpdate : Type 0 where
  pub bytes : List ℕ
  pub header : IntelHeader
  pub pairs : List (ℕ × ℕ)

-- each is an update
abbrev pub AreUpdates : List FileUpdate → Type 0
AreUpdates [] = Unit {0}
AreUpdates (u ∷ us) = IsIntelUpdate u.bytes u.header u.pairs × AreUpdates us

-- their bytes, one update after another
abbrev pub joined : List FileUpdate → List ℕ
joined [] = []
joined (u ∷ us) = u.bytes ++ joined us

-- the bytes are these updates, of which there are at most 65,536
pub record IntelFile (bytes : List ℕ) (updates : List FileUpdate) : Type 0 where
  pub whole : bytes ≡ joined updates
  pub each : AreUpdates updates
  pub few : length updates ≤ 65536

-- the bytes are no Intel file: where the longest front that is one ends, and the first check that fails of the rest
pub record IsFault (bytes : List ℕ) (offset : ℕ) (cause : FileCause) : Type 0 where
  pub updates : List FileUpdate
  pub rest : List ℕ
  pub split : bytes ≡ joined updates ++ rest
  pub file : IntelFile (joined updates) updates
  pub place : offset ≡ length (joined updates)
  pub left : 0 < length rest
  pub longest : (n : ℕ) (others : List FileUpdate) → offset < n → n ≤ length bytes → IntelFile (take n bytes) others → ⊥
  pub first : IsFirstFault (length updates) rest cause
