-- The pieces of a file.
use Rattle.std.proofs.Common.{◌≡◌, inl, inr, ℕ, List, [], ◌++◌, sym, ◌∙◌, ap, append-nil}
use Rattle.uc_bytes.specs.declared.causes.FileCause.{FileCause}
use Rattle.entry_model.specs.Reading.{HasFault}
use Rattle.file_rows.specs.FileReading.{IsSettled}

-- where nothing is left, they are the whole file
pub whole : (held bytes left : List ℕ) → held ≡ bytes ++ left → left ≡ [] → bytes ≡ held
whole held bytes left split none = sym (split ∙ ap (λ (l : List ℕ). bytes ++ l) none ∙ append-nil bytes)

-- a fault that no further bytes undo is one of the file
pub settled_fault : (bytes : List ℕ) (offset : ℕ) (cause : FileCause) → IsSettled bytes offset cause
    → HasFault bytes offset cause
settled_fault bytes offset cause (inl at) = inl (at.1, at.2.0)
settled_fault bytes offset cause (inr at) = inr (at.0, at.1.0)
