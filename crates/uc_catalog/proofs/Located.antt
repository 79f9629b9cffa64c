-- Where an entry of files stands.
use Rattle.std.proofs.Common.{◌≡◌, ℕ, zero, suc, ◌+◌, ◌*◌, ◌-◌, ◌<◌, ◌≤◌, Bool, Option, List, [], ◌∷◌, ◌++◌, length, get_or, map, take, drop, refl, sym, ◌∙◌, ap, subst, arith, length-append, append_assoc}
use Rattle.std.specs.Prelude.{All, sum_by}
use Rattle.std.proofs.Math.Seq.{drop-cons}
use Rattle.std.proofs.lemmas.List.{length-map}
use Rattle.std.proofs.lemmas.List.Sums.{sum_by-cons}
use Rattle.std.proofs.lemmas.List.Elements.{All-head, All-tail}
use Rattle.entry_model.specs.Entry.{Entry}
use Rattle.file_rows.specs.declared.rows.FileRows.{FileRows}
use Rattle.file_rows.specs.declared.rows.FileRows.TheVariants.{Updates, Patches}
use Rattle.uc_catalog.specs.declared.coming.Coming.{Coming}
use Rattle.uc_catalog.specs.declared.file.KeptFile.{KeptFile}
use Rattle.uc_catalog.specs.Contents.{FileSum, IsCounted}
use Rattle.file_rows.specs.UpdateRows.{entry_of_update}
use Rattle.file_rows.specs.PatchRows.{entry_of_patch}
use Rattle.file_rows.specs.FileRows.{count_of, entries_of_rows, StandRows}
use Rattle.uc_catalog.specs.Files.{sum_of_rows, entries_of_file, entries_in, contents_of, AreKept}

-- rows stand for as many entries
pub many_of_rows : (number : ℕ) (bytes : List ℕ) (rows : FileRows) → length (entries_of_rows number bytes rows) ≡ count_of rows
many_of_rows number bytes (Updates kept) = length-map kept.rows.items (entry_of_update number bytes kept.pairs.items)
many_of_rows number bytes (Patches kept) = length-map kept.rows.items (entry_of_patch number bytes kept.tables.items)

pub sum_count : (rows : FileRows) → (sum_of_rows rows).entries ≡ count_of rows
sum_count (Updates kept) = refl
sum_count (Patches kept) = refl

-- at most 65,536 of a file
pub few_rows : (keeps : Bool) (bytes : List ℕ) (rows : FileRows) → StandRows keeps bytes rows → count_of rows ≤ 65536
few_rows keeps bytes (Updates kept) stand = stand.few
few_rows keeps bytes (Patches kept) stand = stand.few

pub few_each : (keeps : Bool) (files : List KeptFile) → AreKept keeps files → All (λ (file : KeptFile). count_of file.rows ≤ 65536) files
few_each keeps files are = λ k d within. few_rows keeps (get_or files k d).bytes.items (get_or files k d).rows (are.stand k d within)

-- the entries from a file on are its own and those of the files behind it
pub parted : (files : List KeptFile) (f n : ℕ) (d : KeptFile) → f < length files → entries_in n (drop f files) ≡ entries_of_file n (get_or files f d) ++ entries_in (n + 1) (drop (suc f) files)
parted files f n d within = ap (entries_in n) (drop-cons files f d within)

-- all entries are as many as the files have, at most 65,536 each
many_in : (n : ℕ) (files : List KeptFile) → length (entries_in n files) ≡ sum_by (λ (file : FileSum). file.entries) (map (λ (file : KeptFile). sum_of_rows file.rows) files)
many_in n [] = refl
many_in n (file ∷ files) =
    let sums = map (λ (f : KeptFile). sum_of_rows f.rows) files in
    omega (arith, sum_by-cons (λ (f : FileSum). f.entries) (sum_of_rows file.rows) sums, many_in (n + 1) files, many_of_rows n file.bytes.items file.rows, sum_count file.rows, length-append (entries_of_file n file) (entries_in (n + 1) files))

few_in : (keeps : Bool) (n : ℕ) (files : List KeptFile) → All (λ (file : KeptFile). StandRows keeps file.bytes.items file.rows) files → length (entries_in n files) ≤ 65536 * length files
few_in keeps n [] stand = omega arith
few_in keeps n (file ∷ files) stand =
    omega (
      arith,
      few_in keeps (n + 1) files (All-tail (λ (f : KeptFile). StandRows keeps f.bytes.items f.rows) file files stand),
      many_of_rows n file.bytes.items file.rows,
      few_rows keeps file.bytes.items file.rows (All-head (λ (f : KeptFile). StandRows keeps f.bytes.items f.rows) file files stand),
      length-append (entries_of_file n file) (entries_in (n + 1) files),
    )

pub counted_is : (keeps : Bool) (files : List KeptFile) (coming : Option Coming) → AreKept keeps files → IsCounted (contents_of keeps files coming)
counted_is keeps files coming are = record {
  all = many_in 0 files;
  few_files = omega (arith, are.few, length-map files (λ (file : KeptFile). sum_of_rows file.rows));
  few_entries = omega (arith, few_in keeps 0 files are.stand, length-map files (λ (file : KeptFile). sum_of_rows file.rows));
}

-- and of files that are as they were
pub counted_same : (keeps : Bool) (files now : List KeptFile) (coming : Option Coming) → now ≡ files → AreKept keeps files → IsCounted (contents_of keeps now coming)
counted_same keeps files now coming is are =
    counted_is keeps now coming (subst (λ (l : List KeptFile). AreKept keeps l) (sym is) are)

-- the entries of files behind others
pub entries_append : (n : ℕ) (files more : List KeptFile) → entries_in n (files ++ more) ≡ entries_in n files ++ entries_in (n + length files) more
entries_append n [] more =
    let same : n ≡ n + 0 = omega arith in ap (λ (k : ℕ). entries_in k more) same
entries_append n (file ∷ files) more =
    let same : n + 1 + length files ≡ n + suc (length files) = omega arith in
    ap (λ (l : List Entry). entries_of_file n file ++ l) (entries_append (n + 1) files more) ∙ sym (append_assoc (entries_of_file n file) (entries_in (n + 1) files) (entries_in (n + 1 + length files) more))
    ∙ ap (λ (k : ℕ). (entries_of_file n file ++ entries_in (n + 1) files) ++ entries_in k more) same

-- the entries of a file and of those before it are among all
pub within_all : (files : List FileSum) (f : ℕ) (d : FileSum) → f < length files → sum_by (λ (file : FileSum). file.entries) (take f files) + (get_or files f d).entries ≤ sum_by (λ (file : FileSum). file.entries) files
within_all [] f d within = absurd (omega arith)
within_all (file ∷ files) zero d within = omega (arith, sum_by-cons (λ (f : FileSum). f.entries) file files)
within_all (file ∷ files) (suc f) d within =
    omega (arith, within_all files f d (omega arith), sum_by-cons (λ (g : FileSum). g.entries) file files, sum_by-cons (λ (g : FileSum). g.entries) file (take f files))
