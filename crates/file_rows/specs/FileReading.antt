-- What the reader of a file knows of the bytes that came.
use Rattle.std.specs.Prelude.{◌≡◌, ◌⊎◌, ℕ, ◌<◌, ◌≤◌, List, ◌++◌, length, Option, Some, None, Result, Ok, Err}
use Rattle.uc_bytes.specs.declared.causes.FileCause.{FileCause}
use Rattle.uc_bytes.specs.declared.causes.FileFault.{FileFault}
use Rattle.uc_bytes.specs.declared.causes.FileAnswer.{FileAnswer}
use Rattle.uc_bytes.specs.declared.causes.FileAnswer.TheVariants.{Fault, NoMemory}
use Rattle.uc_bytes.specs.declared.causes.Vendor.{Vendor}
use Rattle.uc_bytes.specs.declared.causes.Vendor.TheVariants.{Intel, Amd}
use Rattle.intel_format.specs.Settled as intel
use Rattle.amd_format.specs.Settled as amd
use Rattle.entry_model.specs.Reading.{IsAmd}
use Rattle.file_rows.specs.UpdateReading as updates
use Rattle.file_rows.specs.PatchReading as patches
use Rattle.file_rows.specs.declared.update_reader.UpdateReader.{UpdateReader}
use Rattle.file_rows.specs.declared.patch_reader.PatchReader.{PatchReader}
use Rattle.file_rows.specs.declared.file_reader.FileReader.{FileReader}

-- the bytes have this fault, and no further bytes undo it
abbrev pub IsSettled : List ℕ → ℕ → FileCause → Type 0
IsSettled bytes offset cause =
    ((4 ≤ length bytes) × (IsAmd bytes → ⊥) × intel.IsSettled bytes offset cause)
    ⊎ (IsAmd bytes × amd.IsSettled bytes offset cause)

-- they have none such
abbrev pub IsUnsettled : List ℕ → Type 0
IsUnsettled bytes = (offset : ℕ) (cause : FileCause) → IsSettled bytes offset cause → ⊥

-- these bytes came, without such a fault: fewer than four are held, and else the vendor's reader knows them
abbrev pub ComesBy : Option Vendor → List ℕ → List ℕ → UpdateReader → PatchReader → Type 0
ComesBy None head bytes u p = (head ≡ bytes) × (length bytes < 4)
ComesBy (Some Intel) head bytes u p = (4 ≤ length bytes) × (IsAmd bytes → ⊥) × updates.Reads bytes u
ComesBy (Some Amd) head bytes u p = IsAmd bytes × patches.Reads bytes p

abbrev pub Comes : List ℕ → FileReader → Type 0
Comes bytes reader = ComesBy reader.vendor reader.head.items bytes reader.updates reader.patches

-- these bytes came, perhaps with such a fault
abbrev pub ReadsBy : Option FileFault → List ℕ → FileReader → Type 0
ReadsBy None bytes reader = Comes bytes reader
ReadsBy (Some fault) bytes reader = IsSettled bytes fault.offset fault.cause

abbrev pub Reads : List ℕ → FileReader → Type 0
Reads bytes reader = ReadsBy reader.fault bytes reader

-- how many bytes came, up to the piece with such a fault
abbrev pub fed_by : Option Vendor → List ℕ → UpdateReader → PatchReader → ℕ
fed_by None head u p = length head
fed_by (Some Intel) head u p = u.fed
fed_by (Some Amd) head u p = patches.fed_of p

abbrev pub fed_of : FileReader → ℕ
fed_of reader = fed_by reader.vendor reader.head.items reader.updates reader.patches

-- what bytes lead to that came to a vendor's reader from the first on
abbrev pub AreUpdatesRefused : List ℕ → FileAnswer → Type 0
AreUpdatesRefused bytes (Fault fault) = intel.IsSettled bytes fault.offset fault.cause
AreUpdatesRefused bytes NoMemory = Unit {0}

abbrev pub IsUpdatesBegun : List ℕ → Option Vendor → UpdateReader → Result (Unit {0}) FileAnswer → Type 0
IsUpdatesBegun bytes vendor u (Ok _) =
    (vendor ≡ Some Intel) × updates.Reads bytes u
    × ((offset : ℕ) (cause : FileCause) → intel.IsSettled bytes offset cause → ⊥)
IsUpdatesBegun bytes vendor u (Err answer) = AreUpdatesRefused bytes answer

abbrev pub ArePatchesRefused : List ℕ → FileAnswer → Type 0
ArePatchesRefused bytes (Fault fault) = amd.IsSettled bytes fault.offset fault.cause
ArePatchesRefused bytes NoMemory = Unit {0}

abbrev pub IsPatchesBegun : List ℕ → Option Vendor → PatchReader → Result (Unit {0}) FileAnswer → Type 0
IsPatchesBegun bytes vendor p (Ok _) =
    (vendor ≡ Some Amd) × patches.Reads bytes p
    × ((offset : ℕ) (cause : FileCause) → amd.IsSettled bytes offset cause → ⊥)
IsPatchesBegun bytes vendor p (Err answer) = ArePatchesRefused bytes answer

-- what bytes lead to that came from the first on
abbrev pub IsBegun : List ℕ → FileReader → Result (Unit {0}) FileAnswer → Type 0
IsBegun bytes reader (Ok _) = Comes bytes reader × IsUnsettled bytes
IsBegun bytes reader (Err (Fault fault)) = IsSettled bytes fault.offset fault.cause
IsBegun bytes reader (Err NoMemory) = Unit {0}

-- what a piece leads to, where no fault came before
abbrev pub IsCome : List ℕ → List ℕ → FileReader → Result (Unit {0}) FileAnswer → Type 0
IsCome bytes piece reader (Ok _) = Comes (bytes ++ piece) reader × IsUnsettled (bytes ++ piece)
IsCome bytes piece reader (Err (Fault fault)) = IsSettled (bytes ++ piece) fault.offset fault.cause
IsCome bytes piece reader (Err NoMemory) = Comes bytes reader

-- what a piece leads to: a fault that no further bytes undo, exactly where there is one; without memory all is as
-- before
abbrev pub IsFed : List ℕ → List ℕ → FileReader → Result (Unit {0}) FileAnswer → Type 0
IsFed bytes piece reader (Ok _) = Reads (bytes ++ piece) reader × IsUnsettled (bytes ++ piece)
IsFed bytes piece reader (Err (Fault fault)) =
    Reads (bytes ++ piece) reader × IsSettled (bytes ++ piece) fault.offset fault.cause
IsFed bytes piece reader (Err NoMemory) = Reads bytes reader
