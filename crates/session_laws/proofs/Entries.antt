-- What every entry of files that were accepted has: 8 bytes at least, and its revision in the word at byte 4.
use Rattle.std.proofs.Common.{◌≡◌, ℕ, ◌+◌, ◌<◌, ◌≤◌, Bool, List, [], ◌∷◌, ◌++◌, length, Some, refl, sym, ap, subst, arith}
use Rattle.std.specs.List.{All}
use Rattle.std.proofs.lemmas.List.Elements.{All-nil, All-cons, All-append}
use Rattle.std.proofs.lemmas.Option.{get_or_from_slice_get}
use Rattle.uc_bytes.specs.Words.{word}
use Rattle.intel_format.specs.Update.{IsIntelUpdate}
use Rattle.intel_format.specs.File as intel
use Rattle.amd_format.specs.Equiv.{rows_of}
use Rattle.amd_format.specs.Patch.{IsSection, patch_of}
use Rattle.amd_format.specs.File as amd
use Rattle.entry_model.specs.declared.facts.CoreFacts.{CoreFacts}
use Rattle.entry_model.specs.Reading.{Reading, OfIntel, OfAmd, IsReading}
use Rattle.entry_model.specs.Entry.{Entry, patch_entry, update_entry, entries_of_updates, entries_of_sections, entries_of_containers, entries_of, entries_from}
use Rattle.entry_model.specs.Selection.{IsOffer}
use Rattle.entry_laws.proofs.Offers.{within}
use Rattle.read_model.specs.Accepts.{AreAccepted}
use Rattle.read_model.specs.Reads.{Read, files_of}
use Rattle.session_steps.specs.Offers.{entry_at}
use Rattle.session_steps.specs.Step.{ReadAll}

pub record HasRevision (entry : Entry) : Type 0 where
  pub long : 8 ≤ length entry.bytes
  pub stated : word entry.bytes 4 ≡ entry.facts.rev

abbrev pub HaveRevisions : List Entry → Type 0
HaveRevisions entries = All (λ entry. HasRevision entry) entries

none_have : HaveRevisions []
none_have = All-nil (λ (entry : Entry). HasRevision entry)

one_more : (entry : Entry) (entries : List Entry) → HasRevision entry → HaveRevisions entries →
    HaveRevisions (entry ∷ entries)
one_more entry entries has have = All-cons (λ (entry : Entry). HasRevision entry) entry entries has have

both_have : (entries others : List Entry) → HaveRevisions entries → HaveRevisions others →
    HaveRevisions (entries ++ others)
both_have entries others have too = All-append (λ (entry : Entry). HasRevision entry) entries others have too

update_has : (file start : ℕ) (update : intel.FileUpdate) → IsIntelUpdate update.bytes update.header update.pairs →
    HasRevision (update_entry file start update)
update_has file start update is = record {
  long = omega (arith, is.whole, is.sound.header_fits);
  stated = sym (ap (λ header. header.rev) is.header);
}

updates_have : (file start : ℕ) (updates : List intel.FileUpdate) → intel.AreUpdates updates →
    HaveRevisions (entries_of_updates file start updates)
updates_have file start [] are = none_have
updates_have file start (update ∷ updates) are =
    one_more (update_entry file start update) (entries_of_updates file (start + length update.bytes) updates)
    (update_has file start update are.0) (updates_have file (start + length update.bytes) updates are.1)

section_has : (file start : ℕ) (rows : List (ℕ × ℕ)) (section : List ℕ) → IsSection section →
    HasRevision (patch_entry file start rows (patch_of section))
section_has file start rows section is = record { long = omega (arith, is.patch.header); stated = refl }

sections_have : (file start : ℕ) (rows : List (ℕ × ℕ)) (sections : List (List ℕ)) → amd.AreSections sections →
    HaveRevisions (entries_of_sections file start rows sections)
sections_have file start rows [] are = none_have
sections_have file start rows (section ∷ sections) are =
    one_more (patch_entry file (start + 8) rows (patch_of section))
    (entries_of_sections file (start + length section) rows sections)
    (section_has file (start + 8) rows section are.0) (sections_have file (start + length section) rows sections are.1)

containers_have : (file start : ℕ) (containers : List amd.FileContainer) → amd.AreContainers containers →
    HaveRevisions (entries_of_containers file start containers)
containers_have file start [] are = none_have
containers_have file start (c ∷ cs) are =
    both_have (entries_of_sections file (start + length c.equiv) (rows_of c.equiv) c.sections)
    (entries_of_containers file (start + length (amd.container_bytes c)) cs)
    (sections_have file (start + length c.equiv) (rows_of c.equiv) c.sections are.0.sections)
    (containers_have file (start + length (amd.container_bytes c)) cs are.1)

file_has : (file : ℕ) (bytes : List ℕ) (reading : Reading) → IsReading bytes reading →
    HaveRevisions (entries_of file reading)
file_has file bytes (OfIntel updates) is = updates_have file 0 updates is.1.each
file_has file bytes (OfAmd containers) is = containers_have file 0 containers is.1.each

files_have : (file : ℕ) (files : List (List ℕ)) (readings : List Reading) → AreAccepted files readings →
    HaveRevisions (entries_from file readings)
files_have file [] [] are = none_have
files_have file [] (reading ∷ readings) are = absurd are
files_have file (bytes ∷ files) [] are = absurd are
files_have file (bytes ∷ files) (reading ∷ readings) are =
    both_have (entries_of file reading) (entries_from (file + 1) readings)
    (file_has file bytes reading are.0.is_reading) (files_have (file + 1) files readings are.1)

-- the entries of what a command read
pub entries_have : (names : List (List ℕ)) (reads : List Read) (entries : List Entry) → ReadAll names reads entries →
    HaveRevisions entries
entries_have names reads entries read = subst HaveRevisions (sym read.all) (files_have 0
    (files_of reads) read.readings read.come.1)

-- the entry that is offered
pub offered_has : (entries : List Entry) (core : CoreFacts) (force : Bool) (number : ℕ) → HaveRevisions entries →
    IsOffer entries core force (Some number) → HasRevision (entry_at entries number)
offered_has entries core force number have is =
    have number (patch_entry 0 0 [] []) (within entries core force number is)

-- it is the best of them, and its revision is above the core's
pub offered_is_above : (entries : List Entry) (core : CoreFacts) (force : Bool) (number : ℕ) →
    IsOffer entries core force (Some number) → core.rev < (entry_at entries number).facts.rev
offered_is_above entries core force number is =
    subst (λ (entry : Entry). core.rev < entry.facts.rev)
    (sym (get_or_from_slice_get entries number is.entry (patch_entry 0 0 [] []) is.there)) is.admissible.above
