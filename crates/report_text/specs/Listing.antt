-- The list of files and their entries.
use Rattle.std.specs.Prelude.{ℕ, ◌+◌, List, [], ◌∷◌, ◌++◌, length, drop, flat_map}
use Rattle.uc_bytes.specs.declared.causes.Vendor.{Vendor}
use Rattle.uc_bytes.specs.declared.causes.Vendor.TheVariants.{Intel, Amd}
use Rattle.entry_model.specs.declared.facts.EntryFacts.{EntryFacts}
use Rattle.entry_model.specs.Reading.{Reading, OfIntel, OfAmd}
use Rattle.entry_model.specs.Entry.{Entry, served, entries_of}
use Rattle.report_text.specs.Lines.{file_line, update_line, patch_line, pair_line, sig_line, IsDateText}

-- each date has its text
abbrev pub AreDateTexts : (ℕ → List ℕ) → Type 0
AreDateTexts date_text = (date : ℕ) → IsDateText date (date_text date)

-- the line of an entry, by its vendor
abbrev pub line_by : Vendor → (ℕ → List ℕ) → ℕ → EntryFacts → List ℕ
line_by Intel date_text number facts = update_line number facts (date_text facts.date)
line_by Amd date_text number facts = patch_line number facts

abbrev pub entry_line : (ℕ → List ℕ) → ℕ → EntryFacts → List ℕ
entry_line date_text number facts = line_by facts.vendor date_text number facts

-- The lines of an entry: its own; those of the pairs in an update's table, which stand behind its header's; and those of
-- the signatures that a patch is for.
abbrev pub entry_text : (ℕ → List ℕ) → ℕ → Entry → List ℕ
entry_text date_text number entry =
    entry_line date_text number entry.facts ++ flat_map pair_line (drop 1 entry.pairs) ++ flat_map sig_line (served entry)

-- the lines of entries that are numbered from a number on
abbrev pub entries_text : (ℕ → List ℕ) → ℕ → List Entry → List ℕ
entries_text date_text number [] = []
entries_text date_text number (entry ∷ entries) =
    entry_text date_text number entry ++ entries_text date_text (number + 1) entries

abbrev pub vendor_of : Reading → Vendor
vendor_of (OfIntel updates) = Intel
vendor_of (OfAmd containers) = Amd

-- the lines of a file by its number and name, and of its entries, numbered from a number on
abbrev pub file_text : (ℕ → List ℕ) → ℕ → ℕ → List ℕ → Reading → List ℕ
file_text date_text file number name reading =
    file_line file name (vendor_of reading) (length (entries_of file reading)) ++ entries_text date_text number (entries_of file reading)

-- the same of files, the first of which has a number: the entries are numbered over all of them
abbrev pub files_text : (ℕ → List ℕ) → ℕ → ℕ → List (List ℕ) → List Reading → List ℕ
files_text date_text file number (name ∷ names) (reading ∷ readings) =
    file_text date_text file number name reading ++ files_text date_text (file + 1) (number + length (entries_of file reading)) names readings
files_text date_text file number names readings = []
