-- How rows of updates stand for their entries.
use Rattle.std.specs.Prelude.{◌≡◌, ℕ, ◌+◌, List, [], ◌∷◌, ◌++◌, length, take, drop}
use Rattle.uc_bytes.specs.declared.causes.Vendor.TheVariants.{Intel}
use Rattle.intel_format.specs.declared.header.IntelHeader.{IntelHeader}
use Rattle.intel_format.specs.File.{FileUpdate}
use Rattle.intel_file.specs.declared.walk.Ended.{Ended}
use Rattle.entry_model.specs.declared.facts.EntryFacts.{EntryFacts}
use Rattle.entry_model.specs.Entry.{Entry}
use Rattle.file_rows.specs.declared.updates.UpdateRow.{UpdateRow}
use Rattle.file_rows.specs.declared.updates.UpdateRows.{UpdateRows}

-- as many items as a number says, from a place on
abbrev pub own_of : {X : Type 0} → List X → ℕ → ℕ → List X
own_of items start len = take len (drop start items)

-- the row of an update with this header that came whole, before whose pairs so many stand
abbrev pub row_of_ended : IntelHeader → Ended → ℕ → UpdateRow
row_of_ended h ended pairs_at = record {
  start = ended.start;
  len = ended.len;
  rev = h.rev;
  date = h.date;
  min = h.min;
  sig = h.sig;
  flags = h.flags;
  pairs_at = pairs_at;
  pairs = ended.pairs;
}

-- the rows of updates, the first of which begins at a place and has so many pairs before its own
abbrev pub row_of : ℕ → ℕ → FileUpdate → UpdateRow
row_of start pairs_at u = record {
  start = start;
  len = length u.bytes;
  rev = u.header.rev;
  date = u.header.date;
  min = u.header.min;
  sig = u.header.sig;
  flags = u.header.flags;
  pairs_at = pairs_at;
  pairs = length u.pairs;
}

abbrev pub rows_of_updates : ℕ → ℕ → List FileUpdate → List UpdateRow
rows_of_updates start pairs_at [] = []
rows_of_updates start pairs_at (u ∷ us) =
    row_of start pairs_at u ∷ rows_of_updates (start + length u.bytes) (pairs_at + length u.pairs) us

-- the pairs of their tables
abbrev pub pairs_of_updates : List FileUpdate → List (ℕ × ℕ)
pairs_of_updates [] = []
pairs_of_updates (u ∷ us) = u.pairs ++ pairs_of_updates us

-- the facts of an update in the file with this number
abbrev pub facts_of_update : ℕ → UpdateRow → EntryFacts
facts_of_update file row = record {
  file = file;
  start = row.start;
  len = row.len;
  vendor = Intel;
  rev = row.rev;
  date = row.date;
  min = row.min;
  sig = row.sig;
  flags = row.flags;
  id = 0;
  family = 0;
}

-- the entry of a row, of the bytes and pairs that are kept
abbrev pub entry_of_update : ℕ → List ℕ → List (ℕ × ℕ) → UpdateRow → Entry
entry_of_update file bytes pairs row = record {
  facts = facts_of_update file row;
  bytes = own_of bytes row.start row.len;
  pairs = (row.sig, row.flags) ∷ own_of pairs row.pairs_at row.pairs;
  rows = [];
}

-- the rows and pairs are those of these updates
pub record AreUpdateRows (updates : List FileUpdate) (kept : UpdateRows) : Type 0 where
  pub rows : kept.rows.items ≡ rows_of_updates 0 0 updates
  pub pairs : kept.pairs.items ≡ pairs_of_updates updates
