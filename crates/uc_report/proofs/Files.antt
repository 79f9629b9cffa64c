-- Where the entries of a file stand among all, and what is written of files so far.
use Rattle.std.proofs.Common.{◌≡◌, ℕ, zero, suc, ◌+◌, ◌<◌, ◌≤◌, Bool, List, [], ◌∷◌, ◌++◌, length, get_or, map, take, drop, refl, sym, ◌∙◌, ap, arith, append_assoc, length-append, take-append-drop}
use Rattle.std.specs.Prelude.{sum_by}
use Rattle.std.specs.List.{flat_map, range_with_len}
use Rattle.std.proofs.Math.Seq.{drop-cons}
use Rattle.std.proofs.lemmas.List.{take_more, drop_at, take_at, append-nil, length-take-le, length-map, map-append, take-map}
use Rattle.std.proofs.lemmas.List.Sums.{sum_by-cons}
use Rattle.intel_format.specs.File.{FileUpdate}
use Rattle.amd_format.specs.Equiv.{rows_of}
use Rattle.amd_format.specs.File.{FileContainer, container_bytes, patches_in}
use Rattle.entry_model.specs.Reading.{Reading, OfIntel, OfAmd}
use Rattle.entry_model.specs.Entry.{Entry, entries_of_updates, entries_of_sections, entries_of_containers, entries_of, entries_from}
use Rattle.report_text.specs.Listing.{entry_text, entries_text, file_text, files_text, vendor_of}
use Rattle.uc_catalog.specs.Contents.{FileSum, sum_of, kept}
use Rattle.uc_report.proofs.Counted.{none_left}

-- a reading of no meaning
abbrev pub no_reading : Reading
no_reading = OfIntel []

-- the number of the first entry of a file
abbrev pub start_of : List Reading → ℕ → ℕ
start_of readings f = length (entries_from 0 (take f readings))

-- the lines of a file, by its number
abbrev pub text_at : (ℕ → List ℕ) → List (List ℕ) → List Reading → ℕ → List ℕ
text_at date_text names readings f =
    file_text date_text f (start_of readings f) (get_or names f []) (get_or readings f no_reading)

-- how many entries a reading has
many_updates : (file start : ℕ) (us : List FileUpdate) → length (entries_of_updates file start us) ≡ length us
many_updates file start [] = refl
many_updates file start (u ∷ us) = omega (arith, many_updates file (start + length u.bytes) us)

many_sections : (file start : ℕ) (rows : List (ℕ × ℕ)) (sections : List (List ℕ)) → length (entries_of_sections file start rows sections) ≡ length sections
many_sections file start rows [] = refl
many_sections file start rows (section ∷ sections) = omega (arith, many_sections file (start + length section) rows sections)

many_patches : (file start : ℕ) (cs : List FileContainer) → length (entries_of_containers file start cs) ≡ patches_in cs
many_patches file start [] = refl
many_patches file start (c ∷ cs) =
    omega (arith, many_sections file (start + length c.equiv) (rows_of c.equiv) c.sections, many_patches file (start + length (container_bytes c)) cs, length-append (entries_of_sections file (start + length c.equiv) (rows_of c.equiv) c.sections) (entries_of_containers file (start + length (container_bytes c)) cs))

pub many_of : (file : ℕ) (reading : Reading) → length (entries_of file reading) ≡ (sum_of reading).entries
many_of file (OfIntel us) = many_updates file 0 us
many_of file (OfAmd cs) = many_patches file 0 cs

-- a file is listed as of its vendor
pub vendor_is : (reading : Reading) → vendor_of reading ≡ (sum_of reading).vendor
vendor_is (OfIntel us) = refl
vendor_is (OfAmd cs) = refl

-- the lines of entries are those of the entries as they are kept
pub kept_text : (keeps : Bool) (date_text : ℕ → List ℕ) (first : ℕ) (entries : List Entry) → entries_text date_text first (map (kept keeps) entries) ≡ entries_text date_text first entries
kept_text keeps date_text first [] = refl
kept_text keeps date_text first (e ∷ es) = ap (λ (l : List ℕ). entry_text date_text first e ++ l) (kept_text keeps date_text (first + 1) es)

-- the entries of files and more files are those of the ones and of the others
entries_append : (file : ℕ) (rs more : List Reading) → entries_from file (rs ++ more) ≡ entries_from file rs ++ entries_from (file + length rs) more
entries_append file [] more =
    let same : file ≡ file + 0 = omega arith in ap (λ (n : ℕ). entries_from n more) same
entries_append file (r ∷ rs) more =
    let same : file + 1 + length rs ≡ file + suc (length rs) = omega arith in
    ap (λ (l : List Entry). entries_of file r ++ l) (entries_append (file + 1) rs more) ∙ sym (append_assoc (entries_of file r) (entries_from (file + 1) rs) (entries_from (file + 1 + length rs) more))
    ∙ ap (λ (n : ℕ). (entries_of file r ++ entries_from (file + 1) rs) ++ entries_from n more) same

module _ (rs : List Reading) (f : ℕ) (within : f < length rs) where
  -- as many files stand before it as its number says
  front_length : length (take f rs) ≡ f
  front_length = length-take-le f rs (omega arith)

  -- all entries: those before a file, its own and those behind it
  parted : entries_from 0 rs ≡ entries_from 0 (take f rs) ++ (entries_of f (get_or rs f no_reading) ++ entries_from (f + 1) (drop (suc f) rs))
  parted =
      let number : 0 + length (take f rs) ≡ f = omega (arith, front_length) in
      ap (entries_from 0) (sym (take-append-drop f rs) ∙ ap (λ (l : List Reading). take f rs ++ l) (drop-cons rs f no_reading within))
      ∙ entries_append 0 (take f rs) (get_or rs f no_reading ∷ drop (suc f) rs)
      ∙ ap (λ (n : ℕ). entries_from 0 (take f rs) ++ entries_from n (get_or rs f no_reading ∷ drop (suc f) rs)) number

  -- the first entry of the next file
  pub start_next : start_of rs (f + 1) ≡ start_of rs f + length (entries_of f (get_or rs f no_reading))
  start_next =
      let number : 0 + length (take f rs) ≡ f = omega (arith, front_length) in
      ap (λ (l : List Reading). length (entries_from 0 l)) (take_more rs f no_reading within)
      ∙ ap (λ (l : List Entry). length l) (entries_append 0 (take f rs) (get_or rs f no_reading ∷ []) ∙ ap (λ (n : ℕ). entries_from 0 (take f rs) ++ (entries_of n (get_or rs f no_reading) ++ [])) number)
      ∙ length-append (entries_from 0 (take f rs)) (entries_of f (get_or rs f no_reading) ++ [])
      ∙ ap (λ (l : List Entry). start_of rs f + length l) (append-nil (entries_of f (get_or rs f no_reading)))

  -- from its first entry on stand its own, as they are kept
  pub stand_there : (keeps : Bool) (entries : List Entry) (first n : ℕ) → entries ≡ map (kept keeps) (entries_from 0 rs) → first ≡ start_of rs f → n ≡ length (entries_of f (get_or rs f no_reading)) → take n (drop first entries) ≡ map (kept keeps) (entries_of f (get_or rs f no_reading))
  stand_there keeps entries first n all begins is =
      let own = entries_of f (get_or rs f no_reading) in
      let more = entries_from (f + 1) (drop (suc f) rs) in
      ap (λ (l : List Entry). take n (drop first l)) (all ∙ ap (λ (l : List Entry). map (kept keeps) l) parted ∙ map-append (kept keeps) (entries_from 0 (take f rs)) (own ++ more) ∙ ap (λ (l : List Entry). map (kept keeps) (entries_from 0 (take f rs)) ++ l) (map-append (kept keeps) own more))
      ∙ ap (λ (l : List Entry). take n l) (drop_at (map (kept keeps) (entries_from 0 (take f rs))) (map (kept keeps) own ++ map (kept keeps) more) first (length-map (entries_from 0 (take f rs)) (kept keeps) ∙ sym begins))
      ∙ take_at (map (kept keeps) own) (map (kept keeps) more) n (length-map own (kept keeps) ∙ sym is)

-- the text of entries that stand in a row is the texts of the numbers there
pub entries_by_number : (date_text : ℕ → List ℕ) (xs : List Entry) (d : Entry) (first n : ℕ) → first + n ≤ length xs
    → entries_text date_text first (take n (drop first xs)) ≡ flat_map (λ i. entry_text date_text i (get_or xs i d)) (range_with_len first n)
entries_by_number date_text xs d first zero within = refl
entries_by_number date_text xs d first (suc n) within =
    let more : suc first ≡ first + 1 = omega arith in
    ap (λ (l : List Entry). entries_text date_text first (take (suc n) l)) (drop-cons xs first d (omega arith))
    ∙ ap (λ (l : List ℕ). entry_text date_text first (get_or xs first d) ++ l)
    (ap (λ (k : ℕ). entries_text date_text (first + 1) (take n (drop k xs))) more ∙ entries_by_number date_text xs d (first + 1) n (omega arith))

-- where the entries of a file begin, by the numbers of entries of the files before it
count_sum : (file : ℕ) (rs : List Reading) → length (entries_from file rs) ≡ sum_by (λ (sum : FileSum). sum.entries) (map sum_of rs)
count_sum file [] = refl
count_sum file (r ∷ rs) =
    omega (arith, count_sum (file + 1) rs, many_of file r, sum_by-cons (λ (sum : FileSum). sum.entries) (sum_of r) (map sum_of rs), length-append (entries_of file r) (entries_from (file + 1) rs))

pub starts_at : (rs : List Reading) (f : ℕ) → start_of rs f ≡ sum_by (λ (sum : FileSum). sum.entries) (take f (map sum_of rs))
starts_at rs f = count_sum 0 (take f rs) ∙ ap (λ (l : List FileSum). sum_by (λ (sum : FileSum). sum.entries) l) (sym (take-map sum_of f rs))

module _ (date_text : ℕ → List ℕ) (names : List (List ℕ)) (rs : List Reading) (same : length names ≡ length rs) where
  -- the text of the files from a number on is the texts of the numbers there
  files_from : (n f : ℕ) → f + n ≡ length names → files_text date_text f (start_of rs f) (drop f names) (drop f rs) ≡ flat_map (text_at date_text names rs) (range_with_len f n)
  files_from zero f all =
      ap (λ (l : List (List ℕ)). files_text date_text f (start_of rs f) l (drop f rs)) (none_left names f (omega arith))
      ∙ ap (λ (l : List Reading). files_text date_text f (start_of rs f) [] l) (none_left rs f (omega (arith, same)))
  files_from (suc n) f all =
      let within : f < length rs = omega (arith, same) in
      let more : suc f ≡ f + 1 = omega arith in
      ap (λ (l : List (List ℕ)). files_text date_text f (start_of rs f) l (drop f rs)) (drop-cons names f [] (omega arith))
      ∙ ap (λ (l : List Reading). files_text date_text f (start_of rs f) (get_or names f [] ∷ drop (suc f) names) l) (drop-cons rs f no_reading within)
      ∙ ap (λ (l : List ℕ). text_at date_text names rs f ++ l)
      (ap (λ (k : ℕ). files_text date_text (f + 1) k (drop (suc f) names) (drop (suc f) rs)) (sym (start_next rs f within))
      ∙ ap (λ (k : ℕ). files_text date_text (f + 1) (start_of rs (f + 1)) (drop k names) (drop k rs)) more
      ∙ files_from n (f + 1) (omega arith))

  -- and so is that of all files
  pub files_by_number : files_text date_text 0 0 names rs ≡ flat_map (text_at date_text names rs) (range_with_len 0 (length names))
  files_by_number = files_from (length names) 0 (omega arith)
