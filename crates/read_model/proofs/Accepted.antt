-- Bytes are accepted or refused, and never both.
use Rattle.std.proofs.Common.{◌≡◌, ◌⊎◌, inl, inr, ℕ, ◌+◌, ◌<◌, List, [], ◌∷◌, ◌++◌, length, refl, arith}
use Rattle.std.specs.Prelude.{replicate}
use Rattle.std.proofs.lemmas.Bool.{cases_lt}
use Rattle.std.proofs.lemmas.List.{length-replicate}
use Rattle.uc_bytes.specs.declared.causes.FileCause.{FileCause}
use Rattle.uc_bytes.specs.declared.causes.FileCause.TheVariants.{TooLong}
use Rattle.entry_model.specs.Reading.{Reading}
use Rattle.entry_laws.proofs.Readings.{reading_or_fault, never_both as never_both_read, one_reading}
use Rattle.uc_bytes.specs.declared.TheConstants.{FILE_LIMIT}
use Rattle.read_model.specs.Accepts.{Accepts, Refuses, AreAccepted}

pub accepted_or_refused : (bytes : List ℕ) → ((reading : Reading) × Accepts bytes reading) ⊎ ((offset : ℕ) × (cause : FileCause) × Refuses bytes offset cause)
accepted_or_refused bytes = elim (cases_lt FILE_LIMIT (length bytes)) [
  | inl long ↦ inr (FILE_LIMIT, TooLong, inl (long, refl, refl))
  | inr within ↦ elim (reading_or_fault bytes) [
    | inl reading ↦ inl (reading.0, record { within = within; is_reading = reading.1 })
    | inr fault ↦ inr (fault.0, fault.1, inr (within, fault.2))
  ]
]

pub never_both : (bytes : List ℕ) (reading : Reading) (offset : ℕ) (cause : FileCause) → Accepts bytes reading → Refuses bytes offset cause → ⊥
never_both bytes reading offset cause accepts (inl long) = omega (arith, long.0, accepts.within)
never_both bytes reading offset cause accepts (inr fault) = never_both_read bytes reading offset cause accepts.is_reading fault.1

-- files are accepted with one list of readings
pub one_list : (files : List (List ℕ)) (rs ss : List Reading) → AreAccepted files rs → AreAccepted files ss → rs ≡ ss
one_list [] [] [] first second = refl
one_list [] [] (s ∷ ss) first second = absurd second
one_list [] (r ∷ rs) ss first second = absurd first
one_list (bytes ∷ files) [] ss first second = absurd first
one_list (bytes ∷ files) (r ∷ rs) [] first second = absurd second
one_list (bytes ∷ files) (r ∷ rs) (s ∷ ss) first second =
    let here : r ≡ s = one_reading bytes r s first.0.is_reading second.0.is_reading in
    let behind : rs ≡ ss = one_list files rs ss first.1 second.1 in
    λ i. here i ∷ behind i

pub accepted_length : (files : List (List ℕ)) (rs : List Reading) → AreAccepted files rs → length rs ≡ length files
accepted_length [] [] all = refl
accepted_length [] (r ∷ rs) all = absurd all
accepted_length (bytes ∷ files) [] all = absurd all
accepted_length (bytes ∷ files) (r ∷ rs) all = omega (arith, accepted_length files rs all.1)

-- one file more
pub accepted_push : (files : List (List ℕ)) (rs : List Reading) (bytes : List ℕ) (r : Reading) → AreAccepted files rs → Accepts bytes r → AreAccepted (files ++ bytes ∷ []) (rs ++ r ∷ [])
accepted_push [] [] bytes r all is = (is, tt)
accepted_push [] (s ∷ rs) bytes r all is = absurd all
accepted_push (file ∷ files) [] bytes r all is = absurd all
accepted_push (file ∷ files) (s ∷ rs) bytes r all is = (all.0, accepted_push files rs bytes r all.1 is)

-- A file that passes a limit was read only up to there. It has bytes all the same, which pass the limit: those that are
-- held, where that is told.
pub past_limit : (limit : ℕ) (held : List ℕ) (tells : Type 0) → (tells → limit < length held) → (bytes : List ℕ) × (limit < length bytes) × (tells → bytes ≡ held)
past_limit limit held tells long = elim (cases_lt limit (length held)) [
  | inl past ↦ (held, past, λ told. refl)
  | inr within ↦
      let byte : ℕ = 0 in
      (replicate (limit + 1) byte, omega (arith, length-replicate (limit + 1) byte), λ told. absurd (omega (arith, long told, within)))
]
