-- Which bytes are accepted, and why others are refused.
use Rattle.std.specs.Prelude.{◌≡◌, ◌⊎◌, ℕ, ◌<◌, ◌≤◌, List, [], ◌∷◌, length}
use Rattle.uc_bytes.specs.declared.causes.FileCause.{FileCause}
use Rattle.uc_bytes.specs.declared.causes.FileCause.TheVariants.{TooLong}
use Rattle.uc_topology.specs.declared.fault.TopoCause.{TopoCause}
use Rattle.uc_topology.specs.declared.fault.TopoCause.TheVariants as topo
use Rattle.uc_topology.specs.Stated.{Machine}
use Rattle.uc_topology.specs.Texts.{States, FirstFault}
use Rattle.entry_model.specs.Reading.{Reading, IsReading, HasFault}
use Rattle.uc_bytes.specs.declared.TheConstants.{FILE_LIMIT}
use Rattle.read_model.specs.declared.TheConstants.{TOPOLOGY_LIMIT}

-- an update file that is accepted: it is within the limit and has a reading
pub record Accepts (bytes : List ℕ) (reading : Reading) : Type 0 where
  pub within : length bytes ≤ FILE_LIMIT
  pub is_reading : IsReading bytes reading

-- where and why one is refused: what passes the limit is not looked into
abbrev pub Refuses : List ℕ → ℕ → FileCause → Type 0
Refuses bytes offset cause =
    ((FILE_LIMIT < length bytes) × (offset ≡ FILE_LIMIT) × (cause ≡ TooLong)) ⊎ ((length bytes ≤ FILE_LIMIT) × HasFault bytes offset cause)

-- each file is accepted, with the reading in its place
abbrev pub AreAccepted : List (List ℕ) → List Reading → Type 0
AreAccepted [] [] = Unit {0}
AreAccepted (bytes ∷ files) (reading ∷ readings) = Accepts bytes reading × AreAccepted files readings
AreAccepted files readings = ⊥

-- a topology within its limit that states a machine
pub record IsMachine (bytes : List ℕ) (machine : Machine) : Type 0 where
  pub within : length bytes ≤ TOPOLOGY_LIMIT
  pub states : States bytes machine

-- at which line and why a topology is refused
abbrev pub RefusesTopology : List ℕ → ℕ → TopoCause → Type 0
RefusesTopology bytes line cause =
    ((TOPOLOGY_LIMIT < length bytes) × (line ≡ 0) × (cause ≡ topo.TooLong)) ⊎ ((length bytes ≤ TOPOLOGY_LIMIT) × FirstFault bytes (record { line = line; cause = cause }))
