-- What rows of either vendor stand for.
use Rattle.std.specs.Prelude.{ℕ, ◌+◌, ◌<◌, ◌≤◌, Bool, List, length, map, slice_index_or, All, IsTrue, Result, Ok, Err}
use Rattle.uc_bytes.specs.declared.TheConstants.{FILE_LIMIT}
use Rattle.uc_bytes.specs.declared.causes.FileFault.{FileFault}
use Rattle.uc_bytes.specs.declared.causes.Vendor.{Vendor}
use Rattle.uc_bytes.specs.declared.causes.Vendor.TheVariants.{Intel, Amd}
use Rattle.entry_model.specs.Reading.{Reading, OfIntel, OfAmd, IsReading, HasFault}
use Rattle.entry_model.specs.Entry.{Entry}
use Rattle.file_rows.specs.UpdateRows.{entry_of_update, AreUpdateRows}
use Rattle.file_rows.specs.PatchRows.{entry_of_patch, ArePatchRows}
use Rattle.file_rows.specs.declared.updates.UpdateRow.{UpdateRow}
use Rattle.file_rows.specs.declared.patches.PatchRow.{PatchRow}
use Rattle.file_rows.specs.declared.updates.UpdateRows.{UpdateRows}
use Rattle.file_rows.specs.declared.patches.PatchRows.{PatchRows}
use Rattle.file_rows.specs.declared.rows.FileRows.{FileRows}
use Rattle.file_rows.specs.declared.rows.FileRows.TheVariants.{Updates, Patches}

-- how many entries rows stand for
abbrev pub count_of : FileRows → ℕ
count_of (Updates kept) = length kept.rows.items
count_of (Patches kept) = length kept.rows.items

abbrev pub vendor_of : FileRows → Vendor
vendor_of (Updates kept) = Intel
vendor_of (Patches kept) = Amd

-- rows of no meaning
abbrev pub no_update : UpdateRow
no_update = record { start = 0; len = 0; rev = 0; date = 0; min = 0; sig = 0; flags = 0; pairs_at = 0; pairs = 0 }

abbrev pub no_patch : PatchRow
no_patch = record { start = 0; len = 0; rev = 0; id = 0; table = 0 }

-- where an entry begins, and its length
abbrev pub extent_of_update : UpdateRow → ℕ × ℕ
extent_of_update row = (row.start, row.len)

abbrev pub extent_of_patch : PatchRow → ℕ × ℕ
extent_of_patch row = (row.start, row.len)

abbrev pub extent_of : FileRows → ℕ → ℕ × ℕ
extent_of (Updates kept) row = extent_of_update (slice_index_or kept.rows.items row no_update)
extent_of (Patches kept) row = extent_of_patch (slice_index_or kept.rows.items row no_patch)

-- the entries that rows stand for, in a file with this number of which these bytes are kept
abbrev pub entries_of_rows : ℕ → List ℕ → FileRows → List Entry
entries_of_rows number bytes (Updates kept) =
    map (entry_of_update number bytes kept.pairs.items) kept.rows.items
entries_of_rows number bytes (Patches kept) =
    map (entry_of_patch number bytes kept.tables.items) kept.rows.items

-- the rows are those of this reading
abbrev pub AreRowsOf : Reading → FileRows → Type 0
AreRowsOf (OfIntel updates) (Updates kept) = AreUpdateRows updates kept
AreRowsOf (OfAmd containers) (Patches kept) = ArePatchRows containers kept
AreRowsOf reading rows = ⊥

-- there are no more pairs than a file has bytes
abbrev pub HasFewPairs : FileRows → Type 0
HasFewPairs (Updates kept) = length kept.pairs.items ≤ FILE_LIMIT
HasFewPairs (Patches kept) = Unit {0}

-- no more bytes come: the rows are those of the file, or it has this fault
abbrev pub IsFinished : List ℕ → Result FileRows FileFault → Type 0
IsFinished bytes (Ok rows) = (reading : Reading) × IsReading bytes reading × AreRowsOf reading rows
IsFinished bytes (Err fault) = HasFault bytes fault.offset fault.cause

-- the pairs of each update stand among those that are kept; an update has a header, and its bytes stand among those
-- that are kept, where they are
pub record StandUpdates (keeps : Bool) (bytes : List ℕ) (kept : UpdateRows) : Type 0 where
  pub few : length kept.rows.items ≤ 65536
  pub few_pairs : length kept.pairs.items ≤ FILE_LIMIT
  pub pairs : All (λ row. row.pairs_at + row.pairs ≤ length kept.pairs.items) kept.rows.items
  pub long : All (λ row. 48 ≤ row.len) kept.rows.items
  pub inside : IsTrue keeps → All (λ row. row.start + row.len ≤ length bytes) kept.rows.items

-- the same of patches and the tables of their containers
pub record StandPatches (keeps : Bool) (bytes : List ℕ) (kept : PatchRows) : Type 0 where
  pub few : length kept.rows.items ≤ 65536
  pub tables : All (λ row. row.table < length kept.tables.items) kept.rows.items
  pub long : All (λ row. 48 ≤ row.len) kept.rows.items
  pub inside : IsTrue keeps → All (λ row. row.start + row.len ≤ length bytes) kept.rows.items

abbrev pub StandRows : Bool → List ℕ → FileRows → Type 0
StandRows keeps bytes (Updates kept) = StandUpdates keeps bytes kept
StandRows keeps bytes (Patches kept) = StandPatches keeps bytes kept
