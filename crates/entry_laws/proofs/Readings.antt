-- Bytes have one reading or one first fault, so files have one list of readings and one of entries.
use Rattle.std.proofs.Common.{◌≡◌, ◌⊎◌, inl, inr, ℕ, List, [], ◌∷◌, sym, ◌∙◌, ap, refl}
use Rattle.std.proofs.lemmas.Bool.{cases_eq}
use Rattle.uc_bytes.specs.declared.causes.FileCause.{FileCause}
use Rattle.intel_format.proofs.OneReading.{one_reading as one_intel}
use Rattle.intel_format.proofs.OneFault.{never_both as never_both_intel, one_fault as one_intel_fault}
use Rattle.intel_format.proofs.ReadingOrFault.{reading_or_fault as intel_or_fault}
use Rattle.fault_rule.proofs.Decided.{Decided, both, decided_le}
use Rattle.amd_format.proofs.OneReading.{one_reading as one_amd}
use Rattle.amd_format.proofs.OneFault.{never_both as never_both_amd, one_fault as one_amd_fault}
use Rattle.amd_format.proofs.ReadingOrFault.{reading_or_fault as amd_or_fault}
use Rattle.entry_model.specs.Reading.{Reading, OfIntel, OfAmd, IsAmd, IsReading, HasFault}
use Rattle.entry_model.specs.Entry.{Entry, AreReadings, Entries, entries_from}

-- the magic of a container begins the bytes, or it does not
is_amd_or_not : (bytes : List ℕ) → Decided (IsAmd bytes)
is_amd_or_not bytes = both (decided_le _ _) (cases_eq _ _)

-- every list of bytes has a reading or a first fault
pub reading_or_fault : (bytes : List ℕ) → ((r : Reading) × IsReading bytes r) ⊎ ((offset : ℕ) × (cause : FileCause) × HasFault bytes offset cause)
reading_or_fault bytes = elim (is_amd_or_not bytes) [
  | inl amd ↦ elim (amd_or_fault bytes) [
    | inl (cs, file) ↦ inl (OfAmd cs, (amd, file))
    | inr (offset, cause, fault) ↦ inr (offset, cause, inr (amd, fault))
  ]
  | inr not ↦ elim (intel_or_fault bytes) [
    | inl (us, file) ↦ inl (OfIntel us, (not, file))
    | inr (offset, cause, fault) ↦ inr (offset, cause, inl (not, fault))
  ]
]

-- bytes with a reading have no fault
pub never_both : (bytes : List ℕ) (r : Reading) (offset : ℕ) (cause : FileCause) → IsReading bytes r → HasFault bytes offset cause → ⊥
never_both bytes (OfIntel us) offset cause is (inl fault) = never_both_intel bytes us offset cause is.1 fault.1
never_both bytes (OfIntel us) offset cause is (inr fault) = is.0 fault.0
never_both bytes (OfAmd cs) offset cause is (inl fault) = fault.0 is.0
never_both bytes (OfAmd cs) offset cause is (inr fault) = never_both_amd bytes cs offset cause is.1 fault.1

-- two readings of the same bytes are one
pub one_reading : (bytes : List ℕ) (r s : Reading) → IsReading bytes r → IsReading bytes s → r ≡ s
one_reading bytes (OfIntel us) (OfIntel vs) first second =
    ap OfIntel (one_intel us vs first.1.each second.1.each (sym first.1.whole ∙ second.1.whole))
one_reading bytes (OfIntel us) (OfAmd ds) first second = absurd (first.0 second.0)
one_reading bytes (OfAmd cs) (OfIntel vs) first second = absurd (second.0 first.0)
one_reading bytes (OfAmd cs) (OfAmd ds) first second =
    ap OfAmd (one_amd cs ds first.1.each second.1.each (sym first.1.whole ∙ second.1.whole))

-- two faults of the same bytes are one: the same place and the same cause
pub one_fault : (bytes : List ℕ) (m n : ℕ) (c d : FileCause) → HasFault bytes m c → HasFault bytes n d → (m ≡ n) × (c ≡ d)
one_fault bytes m n c d (inl first) (inl second) = one_intel_fault bytes m n c d first.1 second.1
one_fault bytes m n c d (inl first) (inr second) = absurd (first.0 second.0)
one_fault bytes m n c d (inr first) (inl second) = absurd (second.0 first.0)
one_fault bytes m n c d (inr first) (inr second) = one_amd_fault bytes m n c d first.1 second.1

-- two lists of readings of the same files are one
pub one_list : (files : List (List ℕ)) (rs ss : List Reading) → AreReadings files rs → AreReadings files ss → rs ≡ ss
one_list [] [] [] first second = refl
one_list [] [] (s ∷ ss) first second = absurd second
one_list [] (r ∷ rs) ss first second = absurd first
one_list (bytes ∷ files) [] ss first second = absurd first
one_list (bytes ∷ files) (r ∷ rs) [] first second = absurd second
one_list (bytes ∷ files) (r ∷ rs) (s ∷ ss) first second =
    let same : r ≡ s = one_reading bytes r s first.0 second.0 in
    let others : rs ≡ ss = one_list files rs ss first.1 second.1 in
    λ i. same i ∷ others i

-- and so are two lists of entries
pub one_list_of_entries : (files : List (List ℕ)) (es fs : List Entry) → Entries files es → Entries files fs → es ≡ fs
one_list_of_entries files es fs first second =
    first.all ∙ ap (entries_from 0) (one_list files first.readings second.readings first.are_readings second.are_readings) ∙ sym second.all
