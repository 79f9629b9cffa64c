-- What an entry is, by the row at its place.
use Rattle.std.proofs.Common.{◌≡◌, ℕ, ◌+◌, ◌<◌, ◌≤◌, Bool, None, List, [], length, get_or, map, sym, ◌∙◌, ap, subst}
use Rattle.std.specs.Prelude.{IsTrue}
use Rattle.std.proofs.lemmas.List.{get_or-map}
use Rattle.entry_model.specs.Entry.{Entry, patch_entry}
use Rattle.file_rows.specs.declared.rows.FileRows.{FileRows}
use Rattle.file_rows.specs.declared.rows.FileRows.TheVariants.{Updates, Patches}
use Rattle.uc_catalog.specs.declared.file.KeptFile.{KeptFile}
use Rattle.uc_catalog.specs.declared.place.Place.{Place}
use Rattle.file_rows.specs.declared.updates.UpdateRow.{UpdateRow}
use Rattle.file_rows.specs.declared.updates.UpdateRows.{UpdateRows}
use Rattle.file_rows.specs.declared.patches.PatchRow.{PatchRow}
use Rattle.file_rows.specs.declared.patches.PatchRows.{PatchRows}
use Rattle.uc_catalog.specs.Contents.{entry_at}
use Rattle.file_rows.specs.UpdateRows.{own_of, entry_of_update}
use Rattle.file_rows.specs.PatchRows.{entry_of_patch}
use Rattle.file_rows.specs.FileRows.{no_update, no_patch, count_of, extent_of, entries_of_rows, StandRows, StandUpdates, StandPatches}
use Rattle.uc_catalog.specs.Files.{entries_of_file, contents_of, IsPlace, AreKept}

abbrev none : Entry
none = patch_entry 0 0 [] []

-- the bytes of an entry of rows
bytes_of_row : (number : ℕ) (bytes : List ℕ) (rows : FileRows) (row : ℕ) → row < count_of rows → (get_or (entries_of_rows number bytes rows) row none).bytes ≡ own_of bytes (extent_of rows row).0 (extent_of rows row).1
bytes_of_row number bytes (Updates kept) row within =
    ap (λ (e : Entry). e.bytes) (get_or-map (entry_of_update number bytes kept.pairs.items) kept.rows.items row no_update none within)
bytes_of_row number bytes (Patches kept) row within =
    ap (λ (e : Entry). e.bytes) (get_or-map (entry_of_patch number bytes kept.tables.items) kept.rows.items row no_patch none within)

-- they are long enough for a header, and stand among those that are kept
long_row : (keeps : Bool) (bytes : List ℕ) (rows : FileRows) (row : ℕ) → StandRows keeps bytes rows → row < count_of rows → 48 ≤ (extent_of rows row).1
long_row keeps bytes (Updates kept) row stand within = stand.long row no_update within
long_row keeps bytes (Patches kept) row stand within = stand.long row no_patch within

inside_row : (keeps : Bool) (bytes : List ℕ) (rows : FileRows) (row : ℕ) → IsTrue keeps → StandRows keeps bytes rows → row < count_of rows → (extent_of rows row).0 + (extent_of rows row).1 ≤ length bytes
inside_row keeps bytes (Updates kept) row keep stand within = stand.inside keep row no_update within
inside_row keeps bytes (Patches kept) row keep stand within = stand.inside keep row no_patch within

module _ (keeps : Bool) (files : List KeptFile) (i : ℕ) (place : Place) (file : KeptFile) (is : IsPlace files i place) (this : file ≡ get_or files place.file file) where
  -- an entry is the one of its row
  here : entry_at (contents_of keeps files None) i ≡ get_or (entries_of_file place.file file) place.row none
  here = is.is file none ∙ ap (λ (f : KeptFile). get_or (entries_of_file place.file f) place.row none) (sym this)

  pub row_within : place.row < count_of file.rows
  row_within = subst (λ (f : KeptFile). place.row < count_of f.rows) (sym this) (is.row file)

  pub stands : AreKept keeps files → StandRows keeps file.bytes.items file.rows
  stands are = subst (λ (f : KeptFile). StandRows keeps f.bytes.items f.rows) (sym this) (are.stand place.file file is.file)

  pub bytes_here : (entry_at (contents_of keeps files None) i).bytes ≡ own_of file.bytes.items (extent_of file.rows place.row).0 (extent_of file.rows place.row).1
  bytes_here = ap (λ (e : Entry). e.bytes) here ∙ bytes_of_row place.file file.bytes.items file.rows place.row row_within

  pub long_here : AreKept keeps files → 48 ≤ (extent_of file.rows place.row).1
  long_here are = long_row keeps file.bytes.items file.rows place.row (stands are) row_within

  pub inside_here : IsTrue keeps → AreKept keeps files → (extent_of file.rows place.row).0 + (extent_of file.rows place.row).1 ≤ length file.bytes.items
  inside_here keep are = inside_row keeps file.bytes.items file.rows place.row keep (stands are) row_within

  module _ (kept : UpdateRows) (rows : file.rows ≡ Updates kept) where
    pub update_within : place.row < length kept.rows.items
    update_within = subst (λ (r : FileRows). place.row < count_of r) rows row_within

    pub update_here : (d : UpdateRow) → entry_at (contents_of keeps files None) i ≡ entry_of_update place.file file.bytes.items kept.pairs.items (get_or kept.rows.items place.row d)
    update_here d =
        here ∙ ap (λ (r : FileRows). get_or (entries_of_rows place.file file.bytes.items r) place.row none) rows
        ∙ get_or-map (entry_of_update place.file file.bytes.items kept.pairs.items) kept.rows.items place.row d none update_within

    pub update_stands : AreKept keeps files → StandUpdates keeps file.bytes.items kept
    update_stands are = subst (λ (r : FileRows). StandRows keeps file.bytes.items r) rows (stands are)

  module _ (kept : PatchRows) (rows : file.rows ≡ Patches kept) where
    pub patch_within : place.row < length kept.rows.items
    patch_within = subst (λ (r : FileRows). place.row < count_of r) rows row_within

    pub patch_here : (d : PatchRow) → entry_at (contents_of keeps files None) i ≡ entry_of_patch place.file file.bytes.items kept.tables.items (get_or kept.rows.items place.row d)
    patch_here d =
        here ∙ ap (λ (r : FileRows). get_or (entries_of_rows place.file file.bytes.items r) place.row none) rows
        ∙ get_or-map (entry_of_patch place.file file.bytes.items kept.tables.items) kept.rows.items place.row d none patch_within

    pub patch_stands : AreKept keeps files → StandPatches keeps file.bytes.items kept
    patch_stands are = subst (λ (r : FileRows). StandRows keeps file.bytes.items r) rows (stands are)
