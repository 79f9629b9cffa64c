-- How rows of patches stand for their entries.
use Rattle.std.specs.Prelude.{◌≡◌, ℕ, ◌+◌, List, [], ◌∷◌, ◌++◌, length, slice_index_or}
use Rattle.uc_bytes.specs.declared.causes.Vendor.TheVariants.{Amd}
use Rattle.amd_format.specs.Equiv.{rows_of}
use Rattle.amd_format.specs.Patch.{patch_of, patch_rev, patch_id, patch_family}
use Rattle.amd_format.specs.File.{FileContainer, container_bytes}
use Rattle.amd_file.specs.declared.container.AmdPatch.{AmdPatch}
use Rattle.entry_model.specs.declared.facts.EntryFacts.{EntryFacts}
use Rattle.entry_model.specs.Entry.{Entry}
use Rattle.file_rows.specs.UpdateRows.{own_of}
use Rattle.file_rows.specs.declared.patches.PatchRow.{PatchRow}
use Rattle.file_rows.specs.declared.patches.PatchRows.{PatchRows}

-- the row of a patch as it is told, by the number of its container's table
abbrev pub row_of_told : ℕ → AmdPatch → PatchRow
row_of_told table patch =
    record { start = patch.start; len = patch.len; rev = patch.rev; table = table; id = patch.id }

-- the table of a container, where it has a patch
abbrev pub table_of : {X : Type 0} → List X → List (ℕ × ℕ) → List (List (ℕ × ℕ))
table_of [] rows = []
table_of (patch ∷ patches) rows = rows ∷ []

-- the row of a patch that begins at a place
abbrev pub row_of : ℕ → ℕ → List ℕ → PatchRow
row_of start table patch =
    record { start = start; len = length patch; rev = patch_rev patch; table = table; id = patch_id patch }

-- the rows of sections and of containers, the first of which begins at a place
abbrev pub rows_of_sections : ℕ → ℕ → List (List ℕ) → List PatchRow
rows_of_sections start table [] = []
rows_of_sections start table (section ∷ sections) =
    row_of (start + 8) table (patch_of section) ∷ rows_of_sections (start + length section) table sections

abbrev pub tables_of : List FileContainer → List (List (ℕ × ℕ))
tables_of [] = []
tables_of (c ∷ cs) = table_of c.sections (rows_of c.equiv) ++ tables_of cs

abbrev pub rows_of_containers : ℕ → ℕ → List FileContainer → List PatchRow
rows_of_containers start table [] = []
rows_of_containers start table (c ∷ cs) =
    rows_of_sections (start + length c.equiv) table c.sections
    ++ rows_of_containers (start + length (container_bytes c))
    (table + length (table_of c.sections (rows_of c.equiv))) cs

-- the facts of a patch in the file with this number
abbrev pub facts_of_patch : ℕ → PatchRow → EntryFacts
facts_of_patch file row = record {
  file = file;
  start = row.start;
  len = row.len;
  vendor = Amd;
  rev = row.rev;
  date = 0;
  min = 0;
  sig = 0;
  flags = 0;
  id = row.id;
  family = patch_family row.id;
}

-- the entry of a row, of the bytes and tables that are kept
abbrev pub entry_of_patch : ℕ → List ℕ → List (List (ℕ × ℕ)) → PatchRow → Entry
entry_of_patch file bytes tables row = record {
  facts = facts_of_patch file row;
  bytes = own_of bytes row.start row.len;
  pairs = [];
  rows = slice_index_or tables row.table [];
}

-- the rows and tables are those of these containers
pub record ArePatchRows (containers : List FileContainer) (kept : PatchRows) : Type 0 where
  pub rows : kept.rows.items ≡ rows_of_containers 0 0 containers
  pub tables : kept.tables.items ≡ tables_of containers
