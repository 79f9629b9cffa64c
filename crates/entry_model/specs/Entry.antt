-- The entries of files: the updates of Intel files and the patches of AMD files, in the order of files and of places.
use Rattle.std.specs.Prelude.{◌≡◌, ℕ, ◌+◌, ◌==◌, not, if◌then◌else◌, List, [], ◌∷◌, ◌++◌, length, map, filter}
use Rattle.uc_bytes.specs.declared.causes.Vendor.TheVariants.{Intel, Amd}
use Rattle.intel_format.specs.File.{FileUpdate}
use Rattle.amd_format.specs.Equiv.{rows_of}
use Rattle.amd_format.specs.Patch.{patch_of, patch_id, patch_rev, patch_family}
use Rattle.amd_format.specs.File.{FileContainer, container_bytes}
use Rattle.entry_model.specs.declared.facts.EntryFacts.{EntryFacts}
use Rattle.entry_model.specs.Reading.{Reading, OfIntel, OfAmd, IsReading}

-- An entry: its facts and its bytes. Of an update also the signatures and processor flags that it is for, the header's
-- first and then its table's; of a patch also the rows of its own container, signatures and ids.
pub record Entry : Type 0 where
  pub facts : EntryFacts
  pub bytes : List ℕ
  pub pairs : List (ℕ × ℕ)
  pub rows : List (ℕ × ℕ)

-- of rows of signatures and ids the first of each signature
abbrev pub first_rows : List (ℕ × ℕ) → List (ℕ × ℕ)
first_rows [] = []
first_rows (row ∷ rows) =
    row ∷ filter (λ other. not (other.0 == row.0)) (first_rows rows)

-- the signatures that a patch is for, by its container's table: none where its id is 0, which means none
abbrev pub served : Entry → List ℕ
served entry =
    if entry.facts.id == 0 then [] else map (λ row. row.0) (filter (λ row. row.1 == entry.facts.id) (first_rows entry.rows))

-- an update that begins at a place of a file
abbrev pub update_entry : ℕ → ℕ → FileUpdate → Entry
update_entry file start u = record {
  facts = record {
    file = file;
    start = start;
    len = length u.bytes;
    vendor = Intel;
    rev = u.header.rev;
    date = u.header.date;
    min = u.header.min;
    sig = u.header.sig;
    flags = u.header.flags;
    id = 0;
    family = 0;
  };
  bytes = u.bytes;
  pairs = (u.header.sig, u.header.flags) ∷ u.pairs;
  rows = [];
}

-- a patch that begins at a place of a file, behind the rows of its container
abbrev pub patch_entry : ℕ → ℕ → List (ℕ × ℕ) → List ℕ → Entry
patch_entry file start rows patch = record {
  facts = record {
    file = file;
    start = start;
    len = length patch;
    vendor = Amd;
    rev = patch_rev patch;
    date = 0;
    min = 0;
    sig = 0;
    flags = 0;
    id = patch_id patch;
    family = patch_family (patch_id patch);
  };
  bytes = patch;
  pairs = [];
  rows = rows;
}

-- the entries of updates, of sections and of containers, the first of which begins at a place of a file
abbrev pub entries_of_updates : ℕ → ℕ → List FileUpdate → List Entry
entries_of_updates file start [] = []
entries_of_updates file start (u ∷ us) =
    update_entry file start u ∷ entries_of_updates file (start + length u.bytes) us

abbrev pub entries_of_sections : ℕ → ℕ → List (ℕ × ℕ) → List (List ℕ) → List Entry
entries_of_sections file start rows [] = []
entries_of_sections file start rows (section ∷ sections) =
    patch_entry file (start + 8) rows (patch_of section) ∷ entries_of_sections file (start + length section) rows sections

abbrev pub entries_of_containers : ℕ → ℕ → List FileContainer → List Entry
entries_of_containers file start [] = []
entries_of_containers file start (c ∷ cs) =
    entries_of_sections file (start + length c.equiv) (rows_of c.equiv) c.sections ++ entries_of_containers file (start + length (container_bytes c)) cs

-- the entries of a file with this number
abbrev pub entries_of : ℕ → Reading → List Entry
entries_of file (OfIntel updates) = entries_of_updates file 0 updates
entries_of file (OfAmd containers) = entries_of_containers file 0 containers

-- those of files that are numbered from a number on
abbrev pub entries_from : ℕ → List Reading → List Entry
entries_from file [] = []
entries_from file (r ∷ rs) = entries_of file r ++ entries_from (file + 1) rs

-- each file has the reading in its place
abbrev pub AreReadings : List (List ℕ) → List Reading → Type 0
AreReadings [] [] = Unit {0}
AreReadings (bytes ∷ files) (r ∷ rs) = IsReading bytes r × AreReadings files rs
AreReadings files readings = ⊥

-- these are all entries of the files, each of which has a reading
pub record Entries (files : List (List ℕ)) (entries : List Entry) : Type 0 where
  pub readings : List Reading
  pub are_readings : AreReadings files readings
  pub all : entries ≡ entries_from 0 readings
