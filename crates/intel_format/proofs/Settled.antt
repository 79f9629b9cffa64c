-- The first check that fails is the first, whatever follows the bytes, where it does not say that they are cut off.
use Rattle.std.proofs.Common.{◌≢◌, ◌≡◌, inl, inr, ℕ, ◌+◌, ◌%◌, ◌<◌, ◌≤◌, List, [], ◌∷◌, ◌++◌, length, map, take, drop, sym, ◌∙◌, ap, subst, arith, append_assoc, length-append}
use Rattle.std.specs.Prelude.{◌⊎◌}
use Rattle.std.specs.List.{range_with_len}
use Rattle.std.proofs.lemmas.List.{take-append-le}
use Rattle.fault_rule.specs.Checks.{IsFirst}
use Rattle.fault_rule.proofs.Alike.{said_of_same, said_through, AreAlike, first_alike, pass_alike, alike_together, numbered_alike}
use Rattle.fault_rule.proofs.Search.{first_in_front, first_behind, front_or_behind}
use Rattle.uc_bytes.specs.Words.{word_sum_of}
use Rattle.uc_bytes.specs.declared.causes.FileCause.{FileCause}
use Rattle.uc_bytes.specs.declared.causes.FileCause.TheVariants.{Short, Truncated, ExtCut, ExtCount, ExtSum, EntrySum, Sum}
use Rattle.intel_format.specs.declared.header.IntelHeader.{IntelHeader}
use Rattle.intel_format.specs.Header.{header_of, data_len, total_len, header_triple}
use Rattle.intel_format.specs.Update.{IsSoundHeader, entry_count}
use Rattle.intel_format.specs.Checks.{Fails, TableFails, header_checks, table_checks, body_checks, IsFirstFault, table_of, head_and_data}
use Rattle.intel_format.specs.File.{joined, IsFault}
use Rattle.intel_format.specs.Settled.{IsCut, IsSettled}
use Rattle.intel_format.proofs.Front.{header_of-append}
use Rattle.intel_format.proofs.ReadingOrFault.{at_least, sound_header, fault_of}

module _ (before : ℕ) (bytes more : List ℕ) where
  abbrev Here : FileCause → Type 0
  Here = Fails before bytes

  abbrev Longer : FileCause → Type 0
  Longer = Fails before (bytes ++ more)

  -- with a whole header
  module _ (long : 48 ≤ length bytes) where
    same_header : header_of (bytes ++ more) ≡ header_of bytes
    same_header = header_of-append bytes more long

    of_header : (P : IntelHeader → Type 0) → (P (header_of bytes) → P (header_of (bytes ++ more))) × (P (header_of (bytes ++ more)) → P (header_of bytes))
    of_header = said_of_same (sym same_header)

    header_alike : AreAlike Here Longer header_checks
    header_alike =
        let short : (Here Short → Longer Short) × (Longer Short → Here Short) =
        (λ fails. absurd (omega (arith, long, fails)), λ fails. omega (arith, fails, length-append bytes more)) in
        let sizes = of_header (λ h. (data_len h % 4 ≢ 0) ⊎ (total_len h % 4 ≢ 0)) in
        let total = of_header (λ h. total_len h < 48) in
        let past = of_header (λ h. total_len h < 48 + data_len h) in
        let version = of_header (λ h. (h.version ≢ 1) ⊎ (h.loader ≢ 1)) in
        (short, (sizes, (total, (past, (version, tt)))))

    -- and with all bytes that it states
    module _ (sound : IsSoundHeader (header_of bytes)) (whole : total_len (header_of bytes) ≤ length bytes) where
      same_table : table_of (bytes ++ more) ≡ table_of bytes
      same_table =
          let h = header_of bytes in
          ap (λ (g : IntelHeader). drop (48 + data_len g) (take (total_len g) (bytes ++ more))) same_header
          ∙ ap (λ (l : List ℕ). drop (48 + data_len h) l) (take-append-le (total_len h) bytes more whole)

      same_data : head_and_data (bytes ++ more) ≡ head_and_data bytes
      same_data =
          let h = header_of bytes in
          ap (λ (g : IntelHeader). take (48 + data_len g) (bytes ++ more)) same_header
          ∙ take-append-le (48 + data_len h) bytes more (omega (arith, sound.data_fits, whole))

      not_cut : Longer Truncated → ⊥
      not_cut fails = omega (arith, whole, ap total_len same_header, fails, length-append bytes more)

      -- the checks of the table and of the sum
      abbrev checks : List FileCause
      checks = table_checks (table_of bytes) ++ (Sum ∷ [])

      abbrev OfTable : IntelHeader → List ℕ → FileCause → Type 0
      OfTable h table cause = (0 < length table) × TableFails (header_triple h) table cause

      of_table : (cause : FileCause)
          → (OfTable (header_of bytes) (table_of bytes) cause → OfTable (header_of (bytes ++ more)) (table_of (bytes ++ more)) cause) × (OfTable (header_of (bytes ++ more)) (table_of (bytes ++ more)) cause → OfTable (header_of bytes) (table_of bytes) cause)
      of_table cause =
          said_through
          (said_of_same (sym same_table) (λ t. OfTable (header_of bytes) t cause))
          (said_of_same (sym same_header) (λ h. OfTable h (table_of (bytes ++ more)) cause))

      checks_alike : AreAlike Here Longer checks
      checks_alike =
          let entries : AreAlike Here Longer (map EntrySum (range_with_len 0 (entry_count (table_of bytes)))) =
          numbered_alike Here Longer EntrySum 0 (entry_count (table_of bytes)) (λ i. (of_table (EntrySum i)).0) (λ i. (of_table (EntrySum i)).1) in
          let sum : AreAlike Here Longer (Sum ∷ []) =
          ((λ fails none. fails (ap word_sum_of (sym same_data) ∙ none), λ fails none. fails (ap word_sum_of same_data ∙ none)), tt) in
          (of_table ExtCut, (of_table ExtCount, (of_table ExtSum, alike_together Here Longer (map EntrySum (range_with_len 0 (entry_count (table_of bytes)))) (Sum ∷ []) entries sum)))

      first_of_body : (cause : FileCause) → IsFirst Here checks cause → IsFirst Longer (body_checks (bytes ++ more)) cause
      first_of_body cause first =
          let longer : IsFirst Longer checks cause = first_alike Here Longer checks cause checks_alike first in
          inr (not_cut, subst (λ (t : List ℕ). IsFirst Longer (table_checks t ++ (Sum ∷ [])) cause) (sym same_table) longer)

    -- the checks behind that of the bytes' number
    first_behind_many : (cause : FileCause) → (IsCut cause → ⊥) → IsFirst Here (header_checks ++ body_checks bytes) cause → IsFirst Longer (header_checks ++ body_checks (bytes ++ more)) cause
    first_behind_many cause uncut first = elim (front_or_behind Here (body_checks bytes) header_checks cause first) [
      | inl header ↦
          first_in_front Longer (body_checks (bytes ++ more)) header_checks cause (first_alike Here Longer header_checks cause header_alike header)
      | inr (pass, inl cut) ↦ absurd (uncut (subst IsCut (sym cut.1) tt))
      | inr (pass, inr (whole, body)) ↦
          first_behind Longer (body_checks (bytes ++ more)) header_checks cause (pass_alike Here Longer header_checks header_alike pass)
          (first_of_body (sound_header before bytes pass) (at_least whole) cause body)
    ]

  pub first_stays : (cause : FileCause) → (IsCut cause → ⊥) → IsFirstFault before bytes cause → IsFirstFault before (bytes ++ more) cause
  first_stays cause uncut (inl many) = inl many
  first_stays cause uncut (inr (few, inl short)) = absurd (uncut (subst IsCut (sym short.1) tt))
  first_stays cause uncut (inr (few, inr (long, first))) = inr (few, first_behind_many (at_least long) cause uncut (inr (long, first)))

pub settled_stays : (bytes more : List ℕ) (offset : ℕ) (cause : FileCause) → IsSettled bytes offset cause → IsSettled (bytes ++ more) offset cause
settled_stays bytes more offset cause (fault, uncut) =
    let us = fault.updates in
    let split : bytes ++ more ≡ joined us ++ (fault.rest ++ more) =
    ap (λ (l : List ℕ). l ++ more) fault.split ∙ append_assoc (joined us) fault.rest more in
    let first : IsFirstFault (length us) (fault.rest ++ more) cause =
    first_stays (length us) fault.rest more cause uncut fault.first in
    let longer : IsFault (bytes ++ more) (length (joined us)) cause =
    fault_of (bytes ++ more) us (fault.rest ++ more) cause split fault.file.each fault.file.few (omega (arith, fault.left, length-append fault.rest more)) first in
    (subst (λ (n : ℕ). IsFault (bytes ++ more) n cause) (sym fault.place) longer, uncut)
