-- A file behind those that stand.
use Rattle.std.proofs.Common.{◌≡◌, ℕ, ◌+◌, ◌<◌, Bool, Option, List, [], ◌∷◌, ◌++◌, length, map, refl, sym, ◌∙◌, ap, subst, arith, length-append}
use Rattle.std.specs.Prelude.{All}
use Rattle.std.proofs.lemmas.List.{length-map, map_push, append-nil}
use Rattle.std.proofs.lemmas.List.Elements.{All-nil, All-cons, All-append}
use Rattle.uc_bytes.specs.declared.causes.Vendor.TheVariants.{Intel, Amd}
use Rattle.intel_format.specs.File.{FileUpdate, IntelFile}
use Rattle.amd_format.specs.File.{FileContainer, AmdFile, patches_in}
use Rattle.entry_model.specs.Reading.{Reading, OfIntel, OfAmd, IsReading}
use Rattle.entry_model.specs.Entry.{Entry, entries_of}
use Rattle.file_rows.specs.declared.rows.FileRows.{FileRows}
use Rattle.file_rows.specs.declared.rows.FileRows.TheVariants.{Updates, Patches}
use Rattle.uc_catalog.specs.declared.coming.Coming.{Coming}
use Rattle.uc_catalog.specs.declared.file.KeptFile.{KeptFile}
use Rattle.file_rows.specs.declared.updates.UpdateRow.{UpdateRow}
use Rattle.file_rows.specs.declared.updates.UpdateRows.{UpdateRows}
use Rattle.file_rows.specs.declared.patches.PatchRow.{PatchRow}
use Rattle.file_rows.specs.declared.patches.PatchRows.{PatchRows}
use Rattle.uc_catalog.specs.Contents.{FileSum, sum_of, kept, kept_bytes, Adds}
use Rattle.file_rows.specs.UpdateRows.{entry_of_update, AreUpdateRows}
use Rattle.file_rows.specs.PatchRows.{entry_of_patch, ArePatchRows}
use Rattle.file_rows.specs.FileRows.{entries_of_rows, StandRows, AreRowsOf, HasFewPairs}
use Rattle.uc_catalog.specs.Files.{sum_of_rows, entries_of_file, entries_in, contents_of, AreKept}
use Rattle.file_rows.proofs.IntelRows.{updates_entered, updates_stand, many_rows as many_updates}
use Rattle.file_rows.proofs.AmdRows.{containers_entered, patches_stand, many_rows as many_patches}
use Rattle.uc_catalog.proofs.Located.{entries_append}

-- the rows of a file's updates: their sum, their entries, and that they stand
module _ (keeps : Bool) (file : List ℕ) (number : ℕ) where
  entered_updates : (us : List FileUpdate) (rows : UpdateRows) → IntelFile file us → AreUpdateRows us rows → entries_of_rows number (kept_bytes keeps file) (Updates rows) ≡ map (kept keeps) (entries_of number (OfIntel us))
  entered_updates us rows is are =
      ap (λ (l : List UpdateRow). map (entry_of_update number (kept_bytes keeps file) rows.pairs.items) l) are.rows
      ∙ updates_entered number keeps file rows.pairs.items [] [] us 0 0 is.whole refl are.pairs refl

  entered_patches : (cs : List FileContainer) (rows : PatchRows) → AmdFile file cs → ArePatchRows cs rows → entries_of_rows number (kept_bytes keeps file) (Patches rows) ≡ map (kept keeps) (entries_of number (OfAmd cs))
  entered_patches cs rows is are =
      ap (λ (l : List PatchRow). map (entry_of_patch number (kept_bytes keeps file) rows.tables.items) l) are.rows
      ∙ containers_entered number keeps file rows.tables.items [] cs 0 0 [] is.whole refl is.each are.tables refl

  entered : (reading : Reading) (rows : FileRows) → IsReading file reading → AreRowsOf reading rows → entries_of_rows number (kept_bytes keeps file) rows ≡ map (kept keeps) (entries_of number reading)
  entered (OfIntel us) (Updates rows) is are = entered_updates us rows is.1 are
  entered (OfAmd cs) (Patches rows) is are = entered_patches cs rows is.1 are
  entered (OfIntel us) (Patches rows) is are = absurd are
  entered (OfAmd cs) (Updates rows) is are = absurd are

summed : (reading : Reading) (rows : FileRows) → AreRowsOf reading rows → sum_of_rows rows ≡ sum_of reading
summed (OfIntel us) (Updates rows) are =
    let many : length rows.rows.items ≡ length us = ap (λ (l : List UpdateRow). length l) are.rows ∙ many_updates 0 0 us in
    λ i. record { vendor = Intel; entries = many i }
summed (OfAmd cs) (Patches rows) are =
    let many : length rows.rows.items ≡ patches_in cs = ap (λ (l : List PatchRow). length l) are.rows ∙ many_patches 0 0 cs in
    λ i. record { vendor = Amd; entries = many i }
summed (OfIntel us) (Patches rows) are = absurd are
summed (OfAmd cs) (Updates rows) are = absurd are

rows_stand : (keeps : Bool) (file : List ℕ) (reading : Reading) (rows : FileRows) → HasFewPairs rows → IsReading file reading → AreRowsOf reading rows → StandRows keeps (kept_bytes keeps file) rows
rows_stand keeps file (OfIntel us) (Updates rows) few is are = updates_stand keeps file us rows few is.1 are
rows_stand keeps file (OfAmd cs) (Patches rows) few is are = patches_stand keeps file cs rows is.1 are
rows_stand keeps file (OfIntel us) (Patches rows) few is are = absurd are
rows_stand keeps file (OfAmd cs) (Updates rows) few is are = absurd are

-- what was pushed
module _ (keeps : Bool) (files new : List KeptFile) (pushed : KeptFile) (was now : Option Coming) (file : List ℕ) (read : (reading : Reading) × IsReading file reading × AreRowsOf reading pushed.rows) (bytes : pushed.bytes.items ≡ kept_bytes keeps file) (behind : new ≡ files ++ pushed ∷ []) where
  pub adds : Adds (contents_of keeps files was) (contents_of keeps new now) file
  adds =
      let number = length (contents_of keeps files was).files in
      let many = length-map files (λ (f : KeptFile). sum_of_rows f.rows) in
      let count : 0 + length files ≡ number = omega (arith, many) in
      record {
        reading = read.0;
        is_reading = read.1;
        keeps = refl;
        files = ap (λ (l : List KeptFile). map (λ (f : KeptFile). sum_of_rows f.rows) l) behind ∙ map_push (λ (f : KeptFile). sum_of_rows f.rows) files pushed
            ∙ ap (λ (s : FileSum). (contents_of keeps files was).files ++ s ∷ []) (summed read.0 pushed.rows read.2);
        entries = ap (λ (l : List KeptFile). entries_in 0 l) behind ∙ entries_append 0 files (pushed ∷ [])
            ∙ ap (λ (l : List Entry). entries_in 0 files ++ l)
            (append-nil (entries_of_file (0 + length files) pushed) ∙ ap (λ (l : List ℕ). entries_of_rows (0 + length files) l pushed.rows) bytes
            ∙ entered keeps file (0 + length files) read.0 pushed.rows read.1 read.2 ∙ ap (λ (n : ℕ). map (kept keeps) (entries_of n read.0)) count);
      }

  pub are_kept : HasFewPairs pushed.rows → length files < 16 → AreKept keeps files → AreKept keeps new
  are_kept few room are = record {
    few = omega (arith, room, ap (λ (l : List KeptFile). length l) behind, length-append files (pushed ∷ []));
    stand = subst (λ (l : List KeptFile). All (λ (f : KeptFile). StandRows keeps f.bytes.items f.rows) l) (sym behind)
        (All-append (λ (f : KeptFile). StandRows keeps f.bytes.items f.rows) files (pushed ∷ []) are.stand
        (All-cons (λ (f : KeptFile). StandRows keeps f.bytes.items f.rows) pushed [] (subst (λ (l : List ℕ). StandRows keeps l pushed.rows) (sym bytes) (rows_stand keeps file read.0 pushed.rows few read.1 read.2)) (All-nil (λ (f : KeptFile). StandRows keeps f.bytes.items f.rows))));
  }
