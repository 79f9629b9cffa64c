-- What the parts of an AMD file come to.
use Rattle.std.proofs.Common.{◌≡◌, ℕ, ◌+◌, ◌-◌, Bool, true, false, List, [], ◌∷◌, ◌++◌, length, drop, map, refl, sym, ◌∙◌, ap, arith, append_assoc, length-append}
use Rattle.std.proofs.lemmas.List.{append-nil}
use Rattle.amd_format.specs.Equiv.{rows_of}
use Rattle.amd_format.specs.Patch.{patch_of}
use Rattle.amd_format.specs.File.{FileContainer, container_bytes}
use Rattle.amd_file.specs.declared.part.AmdPart.{AmdPart}
use Rattle.amd_file.specs.declared.part.AmdPart.TheVariants.{Container, Row, Patch}
use Rattle.amd_file.specs.Patches.{patch_at, patches_at}
use Rattle.amd_file.specs.Parsing.{head_at, told_of}
use Rattle.file_rows.specs.declared.patches.PatchRow.{PatchRow}
use Rattle.file_rows.specs.PatchRows.{row_of, rows_of_sections, table_of, tables_of, rows_of_containers, ArePatchRows}
use Rattle.file_rows.specs.PatchSums.{Sum, nothing, index_by, with_patch, with_part, with_parts}
use Rattle.file_rows.specs.declared.patches.PatchRows.{PatchRows}

abbrev Rows : Type 0
Rows = List (ℕ × ℕ)

pub parts_append : (sum : Sum) (parts more : List AmdPart) → with_parts sum (parts ++ more) ≡ with_parts (with_parts sum parts) more
parts_append sum [] more = refl
parts_append sum (part ∷ parts) more = parts_append (with_part sum part) parts more

-- rows of a table are added to it
rows_told : (sum : Sum) (rows : Rows) → with_parts sum (map Row rows) ≡ record sum { table = sum.table ++ rows }
rows_told sum [] = λ i. record sum { table = sym (append-nil sum.table) i }
rows_told sum (row ∷ rows) =
    rows_told (record sum { table = sum.table ++ row ∷ [] }) rows ∙ (λ i. record sum { table = append_assoc sum.table (row ∷ []) rows i })

-- patches whose table has an index are rows
patches_told : (sum : Sum) (at table : ℕ) (sections : List (List ℕ)) → sum.indexed ≡ true → length sum.tables ≡ table + 1 → with_parts sum (map Patch (patches_at at sections)) ≡ record sum { rows = sum.rows ++ rows_of_sections at table sections }
patches_told sum at table [] indexed count = λ i. record sum { rows = sym (append-nil sum.rows) i }
patches_told sum at table (s ∷ ss) indexed count =
    let number : length sum.tables - 1 ≡ table = omega (arith, count) in
    let row = row_of (at + 8) table (patch_of s) in
    let next : Sum = record sum { rows = sum.rows ++ row ∷ [] } in
    let one : with_part sum (Patch (patch_at at s)) ≡ next =
    ap (λ (b : Bool). with_patch (index_by b sum) (patch_at at s)) indexed ∙ (λ i. record sum { rows = sum.rows ++ row_of (at + 8) (number i) (patch_of s) ∷ [] }) in
    ap (λ (x : Sum). with_parts x (map Patch (patches_at (at + length s) ss))) one
    ∙ patches_told next (at + length s) table ss indexed count
    ∙ (λ i. record sum { rows = append_assoc sum.rows (row ∷ []) (rows_of_sections (at + length s) table ss) i })

-- behind a table without an index the first patch makes it
pub record IsTold (sum after : Sum) (rows : List PatchRow) (tables : List Rows) : Type 0 where
  pub rows_on : after.rows ≡ sum.rows ++ rows
  pub tables_on : after.tables ≡ sum.tables ++ tables

container_told : (sum : Sum) (at table : ℕ) (sections : List (List ℕ)) (rows : Rows) → sum.indexed ≡ false → sum.table ≡ rows → length sum.tables ≡ table
    → IsTold sum (with_parts sum (map Patch (patches_at at sections))) (rows_of_sections at table sections) (table_of sections rows)
container_told sum at table [] rows indexed same count = record { rows_on = sym (append-nil sum.rows); tables_on = sym (append-nil sum.tables) }
container_told sum at table (s ∷ ss) rows indexed same count =
    let made : length (sum.tables ++ sum.table ∷ []) ≡ table + 1 = omega (arith, count, length-append sum.tables (sum.table ∷ [])) in
    let number : length (sum.tables ++ sum.table ∷ []) - 1 ≡ table = omega (arith, made) in
    let row = row_of (at + 8) table (patch_of s) in
    let next : Sum = record { rows = sum.rows ++ row ∷ []; tables = sum.tables ++ sum.table ∷ []; table = sum.table; indexed = true } in
    let one : with_part sum (Patch (patch_at at s)) ≡ next =
    ap (λ (b : Bool). with_patch (index_by b sum) (patch_at at s)) indexed
    ∙ (λ i. record { rows = sum.rows ++ row_of (at + 8) (number i) (patch_of s) ∷ []; tables = sum.tables ++ sum.table ∷ []; table = sum.table; indexed = true }) in
    let all = ap (λ (x : Sum). with_parts x (map Patch (patches_at (at + length s) ss))) one ∙ patches_told next (at + length s) table ss refl made in
    record {
      rows_on = ap (λ (x : Sum). x.rows) all ∙ append_assoc sum.rows (row ∷ []) (rows_of_sections (at + length s) table ss);
      tables_on = ap (λ (x : Sum). x.tables) all ∙ ap (λ (t : Rows). sum.tables ++ t ∷ []) same;
    }

containers_told : (sum : Sum) (start table : ℕ) (cs : List FileContainer) → length sum.tables ≡ table → IsTold sum (with_parts sum (told_of start cs)) (rows_of_containers start table cs) (tables_of cs)
containers_told sum start table [] count = record { rows_on = sym (append-nil sum.rows); tables_on = sym (append-nil sum.tables) }
containers_told sum start table (c ∷ cs) count =
    let rows = rows_of c.equiv in
    let at = start + length c.equiv in
    let next = start + length (container_bytes c) in
    let head = Container (head_at start (length (drop 12 c.equiv))) in
    let own = table_of c.sections rows in
    let begun : Sum = record sum { table = rows; indexed = false } in
    let ended = with_parts begun (map Patch (patches_at at c.sections)) in
    let split : with_parts sum (told_of start (c ∷ cs)) ≡ with_parts ended (told_of next cs) =
    parts_append sum (head ∷ map Row rows) (map Patch (patches_at at c.sections) ++ told_of next cs)
    ∙ ap (λ (x : Sum). with_parts x (map Patch (patches_at at c.sections) ++ told_of next cs)) (rows_told (record sum { table = []; indexed = false }) rows)
    ∙ parts_append begun (map Patch (patches_at at c.sections)) (told_of next cs) in
    let here = container_told begun at table c.sections rows refl refl count in
    let more = containers_told ended next (table + length own) cs (omega (arith, count, ap (λ (l : List Rows). length l) here.tables_on, length-append sum.tables own)) in
    record {
      rows_on = ap (λ (x : Sum). x.rows) split ∙ more.rows_on ∙ ap (λ (l : List PatchRow). l ++ rows_of_containers next (table + length own) cs) here.rows_on
          ∙ append_assoc sum.rows (rows_of_sections at table c.sections) (rows_of_containers next (table + length own) cs);
      tables_on = ap (λ (x : Sum). x.tables) split ∙ more.tables_on ∙ ap (λ (l : List Rows). l ++ tables_of cs) here.tables_on
          ∙ append_assoc sum.tables own (tables_of cs);
    }

-- what is told of a whole file are its rows
pub all_told : (kept : PatchRows) (sum : Sum) (cs : List FileContainer) → sum ≡ with_parts nothing (told_of 0 cs) → sum.rows ≡ kept.rows.items → sum.tables ≡ kept.tables.items → ArePatchRows cs kept
all_told kept sum cs is rows tables =
    let told = containers_told nothing 0 0 cs refl in
    record {
      rows = sym rows ∙ ap (λ (x : Sum). x.rows) is ∙ told.rows_on;
      tables = sym tables ∙ ap (λ (x : Sum). x.tables) is ∙ told.tables_on;
    }
