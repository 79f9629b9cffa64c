-- The rows of an AMD file's patches stand for its entries.
use Rattle.std.proofs.Common.{◌≡◌, ℕ, ◌+◌, ◌<◌, ◌≤◌, Bool, true, false, List, [], ◌∷◌, ◌++◌, length, get_or, take, drop, map, refl, sym, ◌∙◌, ap, subst, arith, append_assoc, length-append, length-drop}
use Rattle.std.specs.Prelude.{All, IsTrue}
use Rattle.std.proofs.lemmas.Bool.{false≢true}
use Rattle.std.proofs.lemmas.List.{drop_at, take_at, drop-drop, drop-append-le, map-append, get_or-append-add}
use Rattle.std.proofs.lemmas.List.Elements.{All-nil, All-cons, All-append}
use Rattle.amd_format.specs.Equiv.{rows_of}
use Rattle.amd_format.specs.Patch.{IsSection, patch_of}
use Rattle.amd_format.specs.File.{FileContainer, AreSections, joined_sections, AreContainers, container_bytes, joined, patches_in, AmdFile}
use Rattle.entry_model.specs.Entry.{Entry, patch_entry, entries_of_sections, entries_of_containers}
use Rattle.file_rows.specs.declared.patches.PatchRow.{PatchRow}
use Rattle.file_rows.specs.declared.patches.PatchRows.{PatchRows}
use Rattle.file_rows.specs.Kept.{kept, kept_bytes}
use Rattle.file_rows.specs.UpdateRows.{own_of}
use Rattle.file_rows.specs.PatchRows.{table_of, row_of, rows_of_sections, tables_of, rows_of_containers, entry_of_patch, ArePatchRows}
use Rattle.file_rows.specs.FileRows.{StandPatches}
use Rattle.file_rows.proofs.IntelRows.{own_kept}

abbrev Rows : Type 0
Rows = List (ℕ × ℕ)

-- no more tables than patches
one_at_most : {X : Type 0} (ps : List X) (rows : List (ℕ × ℕ)) → length (table_of ps rows) ≤ length ps
one_at_most [] rows = omega arith
one_at_most (p ∷ ps) rows = omega arith

pub few_tables : (cs : List FileContainer) → length (tables_of cs) ≤ patches_in cs
few_tables [] = omega arith
few_tables (c ∷ cs) =
    omega (arith, few_tables cs, one_at_most c.sections (rows_of c.equiv), length-append (table_of c.sections (rows_of c.equiv)) (tables_of cs))

-- rows stand for entries
module _ (number : ℕ) (keeps : Bool) (file : List ℕ) (tables : List Rows) where
  sections_entered : (front : List ℕ) (sections : List (List ℕ)) (rest : List ℕ) (at table : ℕ) (rows : Rows) → file ≡ front ++ (joined_sections sections ++ rest) → length front ≡ at → AreSections sections → get_or tables table [] ≡ rows
      → map (entry_of_patch number (kept_bytes keeps file) tables) (rows_of_sections at table sections) ≡ map (kept keeps) (entries_of_sections number at rows sections)
  sections_entered front [] rest at table rows split place each there = refl
  sections_entered front (s ∷ ss) rest at table rows split place each there =
      let here : file ≡ front ++ (s ++ (joined_sections ss ++ rest)) = split ∙ ap (λ (l : List ℕ). front ++ l) (append_assoc s (joined_sections ss) rest) in
      let next : file ≡ (front ++ s) ++ (joined_sections ss ++ rest) = here ∙ sym (append_assoc front s (joined_sections ss ++ rest)) in
      let behind : drop (at + 8) file ≡ patch_of s ++ (joined_sections ss ++ rest) =
      sym (drop-drop 8 at file) ∙ ap (λ (l : List ℕ). drop 8 (drop at l)) here ∙ ap (λ (l : List ℕ). drop 8 l) (drop_at front (s ++ (joined_sections ss ++ rest)) at place)
      ∙ drop-append-le 8 s (joined_sections ss ++ rest) each.0.head in
      let own : own_of file (at + 8) (length (patch_of s)) ≡ patch_of s =
      ap (λ (l : List ℕ). take (length (patch_of s)) l) behind ∙ take_at (patch_of s) (joined_sections ss ++ rest) (length (patch_of s)) refl in
      let bytes = own_kept keeps file (patch_of s) (at + 8) (length (patch_of s)) own in
      let entered : entry_of_patch number (kept_bytes keeps file) tables (row_of (at + 8) table (patch_of s)) ≡ kept keeps (patch_entry number (at + 8) rows (patch_of s)) =
      λ i. record { facts = (patch_entry number (at + 8) rows (patch_of s)).facts; bytes = bytes i; pairs = []; rows = there i } in
      ap (λ (e : Entry). e ∷ map (entry_of_patch number (kept_bytes keeps file) tables) (rows_of_sections (at + length s) table ss)) entered
      ∙ ap (λ (es : List Entry). kept keeps (patch_entry number (at + 8) rows (patch_of s)) ∷ es)
      (sections_entered (front ++ s) ss rest (at + length s) table rows next (omega (arith, place, length-append front s)) each.1 there)

  -- a container's table is the one of its number, or it has no patch
  container_entered : (front : List ℕ) (sections : List (List ℕ)) (rest : List ℕ) (at table : ℕ) (rows : Rows) (before behind : List Rows) → file ≡ front ++ (joined_sections sections ++ rest) → length front ≡ at → AreSections sections
      → tables ≡ before ++ (table_of sections rows ++ behind) → length before ≡ table
      → map (entry_of_patch number (kept_bytes keeps file) tables) (rows_of_sections at table sections) ≡ map (kept keeps) (entries_of_sections number at rows sections)
  container_entered front [] rest at table rows before behind split place each tabled stand = refl
  container_entered front (s ∷ ss) rest at table rows before behind split place each tabled stand =
      let number_is : table ≡ length before + 0 = omega (arith, stand) in
      let there : get_or tables table [] ≡ rows =
      ap (λ (l : List Rows). get_or l table []) tabled ∙ ap (λ (n : ℕ). get_or (before ++ (rows ∷ behind)) n []) number_is ∙ get_or-append-add before (rows ∷ behind) 0 [] in
      sections_entered front (s ∷ ss) rest at table rows split place each there

  pub containers_entered : (front : List ℕ) (cs : List FileContainer) (start table : ℕ) (before : List Rows) → file ≡ front ++ joined cs → length front ≡ start → AreContainers cs → tables ≡ before ++ tables_of cs → length before ≡ table
      → map (entry_of_patch number (kept_bytes keeps file) tables) (rows_of_containers start table cs) ≡ map (kept keeps) (entries_of_containers number start cs)
  containers_entered front [] start table before split place each tabled stand = refl
  containers_entered front (c ∷ cs) start table before split place each tabled stand =
      let entry = entry_of_patch number (kept_bytes keeps file) tables in
      let own = table_of c.sections (rows_of c.equiv) in
      let next = start + length (container_bytes c) in
      let sections_split : file ≡ (front ++ c.equiv) ++ (joined_sections c.sections ++ joined cs) =
      split ∙ ap (λ (l : List ℕ). front ++ l) (append_assoc c.equiv (joined_sections c.sections) (joined cs)) ∙ sym (append_assoc front c.equiv (joined_sections c.sections ++ joined cs)) in
      map-append entry (rows_of_sections (start + length c.equiv) table c.sections) (rows_of_containers next (table + length own) cs)
      ∙ ap (λ (es : List Entry). es ++ map entry (rows_of_containers next (table + length own) cs))
      (container_entered (front ++ c.equiv) c.sections (joined cs) (start + length c.equiv) table (rows_of c.equiv) before (tables_of cs) sections_split (omega (arith, place, length-append front c.equiv)) each.0.sections tabled stand)
      ∙ ap (λ (es : List Entry). map (kept keeps) (entries_of_sections number (start + length c.equiv) (rows_of c.equiv) c.sections) ++ es)
      (containers_entered (front ++ container_bytes c) cs next (table + length own) (before ++ own) (split ∙ sym (append_assoc front (container_bytes c) (joined cs))) (omega (arith, place, length-append front (container_bytes c))) each.1
      (tabled ∙ sym (append_assoc before own (tables_of cs))) (omega (arith, stand, length-append before own)))
      ∙ sym (map-append (kept keeps) (entries_of_sections number (start + length c.equiv) (rows_of c.equiv) c.sections) (entries_of_containers number next cs))

-- where rows of patches stand
many_sections : (at table : ℕ) (sections : List (List ℕ)) → length (rows_of_sections at table sections) ≡ length sections
many_sections at table [] = refl
many_sections at table (s ∷ ss) = omega (arith, many_sections (at + length s) table ss)

pub many_rows : (start table : ℕ) (cs : List FileContainer) → length (rows_of_containers start table cs) ≡ patches_in cs
many_rows start table [] = refl
many_rows start table (c ∷ cs) =
    let own = table_of c.sections (rows_of c.equiv) in
    omega (
      arith,
      many_sections (start + length c.equiv) table c.sections,
      many_rows (start + length (container_bytes c)) (table + length own) cs,
      length-append (rows_of_sections (start + length c.equiv) table c.sections) (rows_of_containers (start + length (container_bytes c)) (table + length own) cs),
    )

-- a fact of each patch of a file, by its place, its length and its table
sections_all : (P : PatchRow → Type 0) (at table : ℕ) (sections : List (List ℕ)) → ((k : ℕ) (s : List ℕ) → IsSection s → at ≤ k → k + length s ≤ at + length (joined_sections sections) → P (row_of (k + 8) table (patch_of s))) → AreSections sections → All P (rows_of_sections at table sections)
sections_all P at table [] each are = All-nil P
sections_all P at table (s ∷ ss) each are =
    All-cons P (row_of (at + 8) table (patch_of s)) (rows_of_sections (at + length s) table ss)
    (each at s are.0 (omega arith) (omega (arith, length-append s (joined_sections ss))))
    (sections_all P (at + length s) table ss (λ k t is above within. each k t is (omega (arith, above)) (omega (arith, within, length-append s (joined_sections ss)))) are.1)

all_inside : (start table n : ℕ) (cs : List FileContainer) → start + length (joined cs) ≤ n → AreContainers cs → All (λ (row : PatchRow). row.start + row.len ≤ n) (rows_of_containers start table cs)
all_inside start table n [] within each = All-nil (λ (row : PatchRow). row.start + row.len ≤ n)
all_inside start table n (c ∷ cs) within each =
    let own = table_of c.sections (rows_of c.equiv) in
    let long = length-append c.equiv (joined_sections c.sections) in
    let more = length-append (container_bytes c) (joined cs) in
    All-append (λ (row : PatchRow). row.start + row.len ≤ n) (rows_of_sections (start + length c.equiv) table c.sections) (rows_of_containers (start + length (container_bytes c)) (table + length own) cs)
    (sections_all (λ (row : PatchRow). row.start + row.len ≤ n) (start + length c.equiv) table c.sections
    (λ k s is above inside. omega (arith, is.head, length-drop 8 s, inside, within, long, more)) each.0.sections)
    (all_inside (start + length (container_bytes c)) (table + length own) n cs (omega (arith, within, more)) each.1)

all_long : (start table : ℕ) (cs : List FileContainer) → AreContainers cs → All (λ (row : PatchRow). 48 ≤ row.len) (rows_of_containers start table cs)
all_long start table [] each = All-nil (λ (row : PatchRow). 48 ≤ row.len)
all_long start table (c ∷ cs) each =
    let own = table_of c.sections (rows_of c.equiv) in
    All-append (λ (row : PatchRow). 48 ≤ row.len) (rows_of_sections (start + length c.equiv) table c.sections) (rows_of_containers (start + length (container_bytes c)) (table + length own) cs)
    (sections_all (λ (row : PatchRow). 48 ≤ row.len) (start + length c.equiv) table c.sections (λ k s is above inside. omega (arith, is.patch.header)) each.0.sections)
    (all_long (start + length (container_bytes c)) (table + length own) cs each.1)

tabled_here : (at table n : ℕ) (sections : List (List ℕ)) (rows : Rows) → table + length (table_of sections rows) ≤ n → AreSections sections → All (λ (row : PatchRow). row.table < n) (rows_of_sections at table sections)
tabled_here at table n [] rows within each = All-nil (λ (row : PatchRow). row.table < n)
tabled_here at table n (s ∷ ss) rows within each = sections_all (λ (row : PatchRow). row.table < n) at table (s ∷ ss) (λ k t is above inside. omega (arith, within)) each

all_tabled : (start table n : ℕ) (cs : List FileContainer) → table + length (tables_of cs) ≤ n → AreContainers cs → All (λ (row : PatchRow). row.table < n) (rows_of_containers start table cs)
all_tabled start table n [] within each = All-nil (λ (row : PatchRow). row.table < n)
all_tabled start table n (c ∷ cs) within each =
    let own = table_of c.sections (rows_of c.equiv) in
    let more = length-append own (tables_of cs) in
    All-append (λ (row : PatchRow). row.table < n) (rows_of_sections (start + length c.equiv) table c.sections) (rows_of_containers (start + length (container_bytes c)) (table + length own) cs)
    (tabled_here (start + length c.equiv) table n c.sections (rows_of c.equiv) (omega (arith, within, more)) each.0.sections)
    (all_tabled (start + length (container_bytes c)) (table + length own) n cs (omega (arith, within, more)) each.1)

inside_kept : (keeps : Bool) (file : List ℕ) (cs : List FileContainer) → AmdFile file cs → IsTrue keeps → All (λ (row : PatchRow). row.start + row.len ≤ length (kept_bytes keeps file)) (rows_of_containers 0 0 cs)
inside_kept true file cs is keep = all_inside 0 0 (length file) cs (omega (arith, ap (λ (l : List ℕ). length l) is.whole)) is.each
inside_kept false file cs is keep = absurd (false≢true keep)

-- so they do in a file
pub patches_stand : (keeps : Bool) (file : List ℕ) (cs : List FileContainer) (rows : PatchRows) → AmdFile file cs → ArePatchRows cs rows → StandPatches keeps (kept_bytes keeps file) rows
patches_stand keeps file cs rows is are = record {
  few = omega (arith, is.few, many_rows 0 0 cs, ap (λ (l : List PatchRow). length l) are.rows);
  tables = subst (λ (l : List PatchRow). All (λ (row : PatchRow). row.table < length rows.tables.items) l) (sym are.rows)
      (all_tabled 0 0 (length rows.tables.items) cs (omega (arith, ap (λ (l : List Rows). length l) are.tables)) is.each);
  long = subst (λ (l : List PatchRow). All (λ (row : PatchRow). 48 ≤ row.len) l) (sym are.rows) (all_long 0 0 cs is.each);
  inside = λ keep. subst (λ (l : List PatchRow). All (λ (row : PatchRow). row.start + row.len ≤ length (kept_bytes keeps file)) l) (sym are.rows) (inside_kept keeps file cs is keep);
}
