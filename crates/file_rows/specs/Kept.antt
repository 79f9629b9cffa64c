-- Bytes and entries as they are kept.
use Rattle.std.specs.Prelude.{ℕ, Bool, true, false, List, []}
use Rattle.entry_model.specs.Entry.{Entry}

-- bytes, where they are kept
abbrev pub kept_bytes : Bool → List ℕ → List ℕ
kept_bytes true bytes = bytes
kept_bytes false bytes = []

-- an entry as it is kept: with its bytes, or without
abbrev pub kept : Bool → Entry → Entry
kept keeps entry =
    record { facts = entry.facts; bytes = kept_bytes keeps entry.bytes; pairs = entry.pairs; rows = entry.rows }
