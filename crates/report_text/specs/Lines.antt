-- The lines that are printed.
use Rattle.std.specs.Prelude.{◌≡◌, ◌⊎◌, ℕ, ◌+◌, ◌/◌, ◌%◌, ◌==◌, ◌&&◌, not, nat_le, List, [], ◌∷◌, ◌++◌, if◌then◌else◌, codes, decimal}
use Rattle.std.specs.List.{flat_map}
use Rattle.uc_bytes.specs.declared.causes.Vendor.{Vendor}
use Rattle.uc_bytes.specs.declared.causes.Vendor.TheVariants.{Intel, Amd}
use Rattle.uc_bytes.specs.declared.causes.FileCause.{FileCause}
use Rattle.uc_bytes.specs.declared.causes.FileCause.TheVariants.{Short, SizeUnaligned, TotalSmall, DataPastTotal, Version, Truncated, ExtCut, ExtCount, ExtSum, EntrySum, Sum, EquivShort, Magic, EquivType, TableSmall, TableCut, SectionShort, SectionType, PatchSmall, PatchCut, FamilySize, Chipset, TooMany, TooLong}
use Rattle.uc_text.specs.Digits.{hex8_of}
use Rattle.uc_topology.specs.declared.fault.TopoCause.{TopoCause}
use Rattle.uc_topology.specs.declared.fault.TopoCause.TheVariants as topo
use Rattle.intel_format.specs.Date.{NamesDay, month_byte, day_byte, century_byte, year_byte}
use Rattle.entry_model.specs.declared.facts.EntryFacts.{EntryFacts}

-- pieces of a text, one after another
abbrev pub joined : List (List ℕ) → List ℕ
joined pieces = flat_map (λ piece. piece) pieces

-- Lines of errors.

abbrev pub usage_line : ℕ → List ℕ
usage_line k = joined (codes "usage " ∷ decimal k ∷ codes "\n" ∷ [])

abbrev pub unread_line : List ℕ → List ℕ
unread_line name = joined (codes "error read " ∷ name ∷ codes "\n" ∷ [])

abbrev pub cause_text : FileCause → List ℕ
cause_text Short = codes "short"
cause_text SizeUnaligned = codes "size-unaligned"
cause_text TotalSmall = codes "total-small"
cause_text DataPastTotal = codes "data-past-total"
cause_text Version = codes "version"
cause_text Truncated = codes "truncated"
cause_text ExtCut = codes "ext-cut"
cause_text ExtCount = codes "ext-count"
cause_text ExtSum = codes "ext-sum"
cause_text (EntrySum i) = codes "entry-sum " ++ decimal i
cause_text Sum = codes "sum"
cause_text EquivShort = codes "equiv-short"
cause_text Magic = codes "magic"
cause_text EquivType = codes "equiv-type"
cause_text TableSmall = codes "table-small"
cause_text TableCut = codes "table-cut"
cause_text SectionShort = codes "section-short"
cause_text SectionType = codes "section-type"
cause_text PatchSmall = codes "patch-small"
cause_text PatchCut = codes "patch-cut"
cause_text FamilySize = codes "family-size"
cause_text Chipset = codes "chipset"
cause_text TooMany = codes "too-many"
cause_text TooLong = codes "too-long"

-- a file that is refused: where, and for which cause
unfoldable pub fault_line : List ℕ → ℕ → FileCause → List ℕ
fault_line name offset cause =
    joined (codes "error file " ∷ name ∷ codes " at " ∷ decimal offset ∷ codes " " ∷ cause_text cause ∷ codes "\n" ∷ [])

-- the texts of a topology's causes
abbrev pub topo_cause_text : TopoCause → List ℕ
topo_cause_text topo.Head = codes "head"
topo_cause_text topo.Word = codes "word"
topo_cause_text topo.Number = codes "number"
topo_cause_text topo.Order = codes "order"
topo_cause_text topo.NoCore = codes "no-core"
topo_cause_text topo.TooMany = codes "too-many"
topo_cause_text topo.EmptyCore = codes "empty-core"
topo_cause_text topo.TooLong = codes "too-long"
topo_cause_text topo.LiveLimit = codes "live-limit"
topo_cause_text topo.Disagree = codes "disagree"

-- a topology that is refused: at which line, and for which cause
unfoldable pub topology_line : ℕ → TopoCause → List ℕ
topology_line line cause =
    joined (codes "error topology line " ∷ decimal line ∷ codes " " ∷ topo_cause_text cause ∷ codes "\n" ∷ [])

-- a number that no entry has
abbrev pub no_entry_line : ℕ → List ℕ
no_entry_line number = joined (codes "error entry " ∷ decimal number ∷ codes "\n" ∷ [])

-- Lines of a listing.

abbrev pub vendor_text : Vendor → List ℕ
vendor_text Intel = codes "intel"
vendor_text Amd = codes "amd"

-- a file by its number and name, with how many entries it has
unfoldable pub file_line : ℕ → List ℕ → Vendor → ℕ → List ℕ
file_line number name vendor entries =
    joined (codes "file " ∷ decimal number ∷ codes " " ∷ name ∷ codes " " ∷ vendor_text vendor ∷ codes " " ∷ decimal entries ∷ codes "\n" ∷ [])

-- the characters of the two decimal digits in a byte
abbrev pub digit_pair : ℕ → List ℕ
digit_pair byte = (48 + byte / 16) ∷ (48 + byte % 16) ∷ []

-- year, month and day
abbrev pub day_text : ℕ → List ℕ
day_text date =
    digit_pair (century_byte date) ++ digit_pair (year_byte date) ++ 45 ∷ digit_pair (month_byte date) ++ 45 ∷ digit_pair (day_byte date)

-- the day that a date names, or a dash where it names none
abbrev pub IsDateText : ℕ → List ℕ → Type 0
IsDateText date text = (NamesDay date × (text ≡ day_text date)) ⊎ ((NamesDay date → ⊥) × (text ≡ codes "-"))

-- the minimum revision, where there is one
abbrev pub min_text : ℕ → List ℕ
min_text min = if min == 0 then [] else codes " min " ++ hex8_of min

-- an update by its number, with the text of its date
unfoldable pub update_line : ℕ → EntryFacts → List ℕ → List ℕ
update_line number facts date =
    joined
    (decimal number ∷ codes " at " ∷ decimal facts.start ∷ codes " len " ∷ decimal facts.len ∷ codes " rev " ∷ hex8_of facts.rev ∷ codes " date " ∷ date
    ∷ codes " sig " ∷ hex8_of facts.sig ∷ codes " flags " ∷ hex8_of facts.flags ∷ min_text facts.min ∷ codes "\n" ∷ [])

-- a patch by its number
unfoldable pub patch_line : ℕ → EntryFacts → List ℕ
patch_line number facts =
    joined
    (decimal number ∷ codes " at " ∷ decimal facts.start ∷ codes " len " ∷ decimal facts.len ∷ codes " rev " ∷ hex8_of facts.rev ∷ codes " id " ∷ hex8_of facts.id
    ∷ codes " family " ∷ hex8_of facts.family ∷ codes "\n" ∷ [])

-- a signature and the processor flags that go with it, of an update's table
unfoldable pub pair_line : ℕ × ℕ → List ℕ
pair_line pair = joined (codes "  pair " ∷ hex8_of pair.0 ∷ codes " " ∷ hex8_of pair.1 ∷ codes "\n" ∷ [])

-- a signature that a patch is for
unfoldable pub sig_line : ℕ → List ℕ
sig_line sig = joined (codes "  sig " ∷ hex8_of sig ∷ codes "\n" ∷ [])

-- Lines of a selection.

-- an update that may be written without a reboot by what it says itself
abbrev pub safe_text : Vendor → ℕ → ℕ → List ℕ
safe_text Intel min rev = if not (min == 0) && nat_le min rev then codes " safe" else []
safe_text Amd min rev = []

-- a core at its revision, and the entry that it is offered
unfoldable pub offer_line : ℕ → ℕ → ℕ → EntryFacts → List ℕ
offer_line core rev number facts =
    joined
    (codes "core " ∷ decimal core ∷ codes " rev " ∷ hex8_of rev ∷ codes " offer " ∷ decimal number ∷ codes " rev " ∷ hex8_of facts.rev
    ∷ safe_text facts.vendor facts.min rev ∷ codes "\n" ∷ [])

-- the same where there is none
unfoldable pub no_offer_line : ℕ → ℕ → List ℕ
no_offer_line core rev = joined (codes "core " ∷ decimal core ∷ codes " rev " ∷ hex8_of rev ∷ codes " offer none\n" ∷ [])
