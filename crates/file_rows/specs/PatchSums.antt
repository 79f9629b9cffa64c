-- What parts of an AMD file that are told one after another come to.
use Rattle.std.specs.Prelude.{ℕ, ◌-◌, ◌^◌, ◌<◌, Bool, true, false, List, [], ◌∷◌, ◌++◌, length, vec_len}
use Rattle.amd_file.specs.declared.container.AmdPatch.{AmdPatch}
use Rattle.amd_file.specs.declared.part.AmdPart.{AmdPart}
use Rattle.amd_file.specs.declared.part.AmdPart.TheVariants.{Container, Row, Patch}
use Rattle.file_rows.specs.PatchRows.{row_of_told}
use Rattle.file_rows.specs.declared.patches.PatchRow.{PatchRow}
use Rattle.file_rows.specs.declared.gathered.Gathered.{Gathered}
use Rattle.file_rows.specs.declared.gathered.Mark.{Mark}

-- What parts come to: the rows and tables, the rows of the last container's table, and whether that table is among the
-- tables, which it is from the container's first patch on.
pub record Sum : Type 0 where
  pub rows : List PatchRow
  pub tables : List (List (ℕ × ℕ))
  pub table : List (ℕ × ℕ)
  pub indexed : Bool

abbrev pub nothing : Sum
nothing = record { rows = []; tables = []; table = []; indexed = true }

-- with an index of the last table, where there is none yet
abbrev pub index_by : Bool → Sum → Sum
index_by true sum = sum
index_by false sum = record sum { tables = sum.tables ++ sum.table ∷ []; indexed = true }

abbrev pub with_index : Sum → Sum
with_index sum = index_by sum.indexed sum

-- with a patch, which goes by the last table
abbrev pub with_patch : Sum → AmdPatch → Sum
with_patch sum patch = record sum { rows = sum.rows ++ row_of_told (length sum.tables - 1) patch ∷ [] }

-- with one part more
abbrev pub with_part : Sum → AmdPart → Sum
with_part sum (Container head) = record sum { table = []; indexed = false }
with_part sum (Row row) = record sum { table = sum.table ++ row ∷ [] }
with_part sum (Patch patch) = with_patch (with_index sum) patch
with_part sum part = sum

-- with more parts
abbrev pub with_parts : Sum → List AmdPart → Sum
with_parts sum [] = sum
with_parts sum (part ∷ parts) = with_parts (with_part sum part) parts

-- what is gathered, where the last container began in this piece or before
abbrev pub table_by : Bool → List (ℕ × ℕ) → List (ℕ × ℕ) → List (ℕ × ℕ)
table_by true table fresh = fresh
table_by false table fresh = table

abbrev pub sum_of : Gathered → Sum
sum_of g = record {
  rows = g.rows.rows.items;
  tables = g.rows.tables.items;
  table = table_by g.begun g.table.items g.fresh.items;
  indexed = g.indexed;
}

-- how much stands
abbrev pub mark_of : Gathered → Mark
mark_of g = record {
  rows = vec_len g.rows.rows;
  tables = vec_len g.rows.tables;
  table = vec_len g.table;
  indexed = g.indexed;
}

-- a patch begins and is shorter than 4 GiB
abbrev pub IsShort : AmdPart → Type 0
IsShort (Patch patch) = (patch.start < 2 ^ 32) × (patch.len < 2 ^ 32)
IsShort part = Unit {0}
