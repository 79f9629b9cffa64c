-- How a file of either vendor goes on.
use Rattle.std.proofs.Common.{◌≡◌, inl, inr, ℕ, ◌<◌, ◌≤◌, List, [], ◌++◌, length, Option, Some, Result, Ok, Err, refl, sym, ◌∙◌, subst, arith, length-append}
use Rattle.uc_bytes.specs.Words.{word}
use Rattle.uc_bytes.proofs.Fronts.{word-append}
use Rattle.uc_bytes.specs.declared.causes.FileCause.{FileCause}
use Rattle.uc_bytes.specs.declared.causes.FileAnswer.{FileAnswer}
use Rattle.uc_bytes.specs.declared.causes.FileAnswer.TheVariants.{Fault, NoMemory}
use Rattle.uc_bytes.specs.declared.causes.Vendor.{Vendor}
use Rattle.uc_bytes.specs.declared.causes.Vendor.TheVariants.{Intel, Amd}
use Rattle.intel_format.specs.Settled as intel
use Rattle.intel_format.proofs.Settled as intel_proofs
use Rattle.amd_format.specs.Equiv.{amd_magic}
use Rattle.amd_format.specs.Settled as amd
use Rattle.amd_format.proofs.Settled as amd_proofs
use Rattle.entry_model.specs.Reading.{IsAmd}
use Rattle.file_rows.specs.UpdateReading as updates
use Rattle.file_rows.specs.PatchReading as patches
use Rattle.file_rows.specs.FileReading.{IsSettled, IsUnsettled, ComesBy, AreUpdatesRefused, IsUpdatesBegun, ArePatchesRefused, IsPatchesBegun, IsBegun, IsCome}
use Rattle.file_rows.specs.declared.update_reader.UpdateReader.{UpdateReader}
use Rattle.file_rows.specs.declared.patch_reader.PatchReader.{PatchReader}
use Rattle.file_rows.specs.declared.file_reader.FileReader.{FileReader}

-- whose a file is, is known from four bytes on
pub amd_front : (head rest : List ℕ) → 4 ≤ length head → word head 0 ≡ amd_magic → IsAmd (head ++ rest)
amd_front head rest long magic =
    (omega (arith, long, length-append head rest), word-append head rest 0 (omega (arith, long)) ∙ magic)

pub not_amd_front : (head rest : List ℕ) → 4 ≤ length head → (word head 0 ≡ amd_magic → ⊥) → IsAmd (head ++ rest) → ⊥
not_amd_front head rest long other amd = other (sym (word-append head rest 0 (omega (arith, long))) ∙ amd.1)

pub not_amd_stays : (bytes more : List ℕ) → 4 ≤ length bytes → (IsAmd bytes → ⊥) → IsAmd (bytes ++ more) → ⊥
not_amd_stays bytes more long other = not_amd_front bytes more long (λ magic. other (long, magic))

-- a fault that no further bytes undo stays
pub settled_stays : (bytes more : List ℕ) (offset : ℕ) (cause : FileCause) → IsSettled bytes offset cause → IsSettled (bytes ++ more) offset cause
settled_stays bytes more offset cause (inl at) =
    inl (omega (arith, at.0, length-append bytes more), not_amd_stays bytes more at.0 at.1, intel_proofs.settled_stays bytes more offset cause at.2)
settled_stays bytes more offset cause (inr at) =
    inr (amd_front bytes more at.0.0 at.0.1, amd_proofs.settled_stays bytes more offset cause at.1)

intel_unsettled : (bytes : List ℕ) → (IsAmd bytes → ⊥) → ((offset : ℕ) (cause : FileCause) → intel.IsSettled bytes offset cause → ⊥) → IsUnsettled bytes
intel_unsettled bytes other none = λ offset cause settled. elim settled [ inl at ↦ none offset cause at.2 | inr at ↦ other at.0 ]

amd_unsettled : (bytes : List ℕ) → IsAmd bytes → ((offset : ℕ) (cause : FileCause) → amd.IsSettled bytes offset cause → ⊥) → IsUnsettled bytes
amd_unsettled bytes is none = λ offset cause settled. elim settled [ inl at ↦ at.1 is | inr at ↦ none offset cause at.1 ]

-- so no fewer than four bytes have one
pub short_unsettled : (bytes : List ℕ) → length bytes < 4 → IsUnsettled bytes
short_unsettled bytes short = λ offset cause settled. elim settled [ inl at ↦ omega (arith, short, at.0) | inr at ↦ omega (arith, short, at.0.0) ]

-- ---- from the first four bytes on

pub updates_begun : (result : Result (Unit {0}) FileAnswer) (head rest : List ℕ) (u : UpdateReader) → updates.IsFed head rest u result → IsUpdatesBegun (head ++ rest) (Some Intel) u result
updates_begun (Ok unit) head rest u fed = (refl, fed.0, fed.1)
updates_begun (Err (Fault fault)) head rest u fed = fed
updates_begun (Err NoMemory) head rest u fed = tt

pub updates_refused : (answer : FileAnswer) (head rest : List ℕ) (u : UpdateReader) → updates.IsFed [] head u (Err answer) → AreUpdatesRefused (head ++ rest) answer
updates_refused (Fault fault) head rest u refused = intel_proofs.settled_stays head rest fault.offset fault.cause refused
updates_refused NoMemory head rest u refused = tt

pub patches_begun : (result : Result (Unit {0}) FileAnswer) (head rest : List ℕ) (p : PatchReader) → patches.IsFed head rest p result → IsPatchesBegun (head ++ rest) (Some Amd) p result
patches_begun (Ok unit) head rest p fed = (refl, fed.0, fed.1)
patches_begun (Err (Fault fault)) head rest p fed = fed
patches_begun (Err NoMemory) head rest p fed = tt

pub patches_refused : (answer : FileAnswer) (head rest : List ℕ) (p : PatchReader) → patches.IsFed [] head p (Err answer) → ArePatchesRefused (head ++ rest) answer
patches_refused (Fault fault) head rest p refused = amd_proofs.settled_stays head rest fault.offset fault.cause refused
patches_refused NoMemory head rest p refused = tt

pub begun_as_updates : (result : Result (Unit {0}) FileAnswer) (head rest : List ℕ) (reader : FileReader) → 4 ≤ length head → (word head 0 ≡ amd_magic → ⊥) → IsUpdatesBegun (head ++ rest) reader.vendor reader.updates result → IsBegun (head ++ rest) reader result
begun_as_updates (Ok u) head rest reader long other begun =
    let not_amd = not_amd_front head rest long other in (
      subst (λ (v : Option Vendor). ComesBy v reader.head.items (head ++ rest) reader.updates reader.patches) (sym begun.0) (omega (arith, long, length-append head rest), not_amd, begun.1),
      intel_unsettled (head ++ rest) not_amd begun.2,
    )
begun_as_updates (Err (Fault fault)) head rest reader long other begun =
    inl (omega (arith, long, length-append head rest), not_amd_front head rest long other, begun)
begun_as_updates (Err NoMemory) head rest reader long other begun = tt

pub begun_as_patches : (result : Result (Unit {0}) FileAnswer) (head rest : List ℕ) (reader : FileReader) → 4 ≤ length head → word head 0 ≡ amd_magic → IsPatchesBegun (head ++ rest) reader.vendor reader.patches result → IsBegun (head ++ rest) reader result
begun_as_patches (Ok u) head rest reader long magic begun =
    let is_amd = amd_front head rest long magic in (
      subst (λ (v : Option Vendor). ComesBy v reader.head.items (head ++ rest) reader.updates reader.patches) (sym begun.0) (is_amd, begun.1),
      amd_unsettled (head ++ rest) is_amd begun.2,
    )
begun_as_patches (Err (Fault fault)) head rest reader long magic begun = inr (amd_front head rest long magic, begun)
begun_as_patches (Err NoMemory) head rest reader long magic begun = tt

-- ---- a piece more

pub updates_come : (result : Result (Unit {0}) FileAnswer) (bytes piece : List ℕ) (reader : FileReader) → reader.vendor ≡ Some Intel → 4 ≤ length bytes → (IsAmd bytes → ⊥) → updates.IsFed bytes piece reader.updates result → IsCome bytes piece reader result
updates_come (Ok u) bytes piece reader vendor long other fed =
    let not_amd = not_amd_stays bytes piece long other in (
      subst (λ (v : Option Vendor). ComesBy v reader.head.items (bytes ++ piece) reader.updates reader.patches) (sym vendor) (omega (arith, long, length-append bytes piece), not_amd, fed.0),
      intel_unsettled (bytes ++ piece) not_amd fed.1,
    )
updates_come (Err (Fault fault)) bytes piece reader vendor long other fed =
    inl (omega (arith, long, length-append bytes piece), not_amd_stays bytes piece long other, fed)
updates_come (Err NoMemory) bytes piece reader vendor long other fed =
    subst (λ (v : Option Vendor). ComesBy v reader.head.items bytes reader.updates reader.patches) (sym vendor) (long, other, fed)

pub patches_come : (result : Result (Unit {0}) FileAnswer) (bytes piece : List ℕ) (reader : FileReader) → reader.vendor ≡ Some Amd → IsAmd bytes → patches.IsFed bytes piece reader.patches result → IsCome bytes piece reader result
patches_come (Ok u) bytes piece reader vendor is fed =
    let is_amd = amd_front bytes piece is.0 is.1 in (
      subst (λ (v : Option Vendor). ComesBy v reader.head.items (bytes ++ piece) reader.updates reader.patches) (sym vendor) (is_amd, fed.0),
      amd_unsettled (bytes ++ piece) is_amd fed.1,
    )
patches_come (Err (Fault fault)) bytes piece reader vendor is fed = inr (amd_front bytes piece is.0 is.1, fed)
patches_come (Err NoMemory) bytes piece reader vendor is fed =
    subst (λ (v : Option Vendor). ComesBy v reader.head.items bytes reader.updates reader.patches) (sym vendor) (is, fed)
