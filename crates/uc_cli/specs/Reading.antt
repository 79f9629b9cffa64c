-- What the reading of files gave. Where the files tell what they hold, that is what was read.
use Rattle.std.specs.Prelude.{◌≡◌, ℕ, List, Result, Ok, Err}
use Rattle.uc_io.specs.Faults.{Rose}
use Rattle.uc_topology.specs.Stated.{Machine}
use Rattle.uc_catalog.specs.Contents.{Contents}
use Rattle.tool_text.specs.read_model.Accepts.{IsMachine, RefusesTopology}
use Rattle.tool_text.specs.read_model.Reads.{NotRead, Refused, ReadsOf}
use Rattle.tool_text.specs.script_text.declared.forms.Limits.{Limits}
use Rattle.tool_text.specs.script_text.Stated.{Stated}
use Rattle.tool_text.specs.script_text.Accepts.{IsScript, RefusesScript}
use Rattle.update_reads.specs.Reading.{IsOfFiles}
use Rattle.uc_cli.specs.declared.refusal.Refusal.{Refusal}
use Rattle.uc_cli.specs.declared.refusal.Refusal.TheVariants.{Unread, BadFile, BadTopology, BadScript, NoMemory}

-- all update files stand in the catalogue, or the first that is not read or is refused decides
abbrev pub AreUpdatesRead : Type 0 → List (List ℕ) → (List ℕ → List ℕ) → ℕ → ℕ → Result Contents Refusal → Type 0
AreUpdatesRead tells names holds before now (Ok contents) = (now ≡ before) × IsOfFiles tells names holds contents
AreUpdatesRead tells names holds before now (Err (Unread name)) =
    Rose before now × ReadsOf tells holds names (NotRead name.now)
AreUpdatesRead tells names holds before now (Err (BadFile name fault)) =
    (now ≡ before) × ReadsOf tells holds names (Refused name.now fault.offset fault.cause)
AreUpdatesRead tells names holds before now (Err NoMemory) = now ≡ before
AreUpdatesRead tells names holds before now (Err refusal) = ⊥

-- the topology that the bytes of a file state, or why it is refused
abbrev pub IsTopologyRead : Type 0 → List ℕ → List ℕ → ℕ → ℕ → Result Machine Refusal → Type 0
IsTopologyRead tells name held before now (Ok machine) =
    (now ≡ before) × ((bytes : List ℕ) × (tells → bytes ≡ held) × IsMachine bytes machine)
IsTopologyRead tells name held before now (Err (Unread which)) = Rose before now × (which.now ≡ name)
IsTopologyRead tells name held before now (Err (BadTopology fault)) =
    (now ≡ before) × ((bytes : List ℕ) × (tells → bytes ≡ held) × RefusesTopology bytes fault.line fault.cause)
IsTopologyRead tells name held before now (Err NoMemory) = now ≡ before
IsTopologyRead tells name held before now (Err refusal) = ⊥

-- the script that the bytes of a file state for a machine, or why it is refused
abbrev pub IsScriptRead : Type 0 → Limits → List ℕ → List ℕ → ℕ → ℕ → Result Stated Refusal → Type 0
IsScriptRead tells limits name held before now (Ok script) =
    (now ≡ before) × ((bytes : List ℕ) × (tells → bytes ≡ held) × IsScript limits bytes script)
IsScriptRead tells limits name held before now (Err (Unread which)) = Rose before now × (which.now ≡ name)
IsScriptRead tells limits name held before now (Err (BadScript fault)) =
    (now ≡ before) × ((bytes : List ℕ) × (tells → bytes ≡ held) × RefusesScript limits bytes fault.line fault.cause)
IsScriptRead tells limits name held before now (Err NoMemory) = now ≡ before
IsScriptRead tells limits name held before now (Err refusal) = ⊥
