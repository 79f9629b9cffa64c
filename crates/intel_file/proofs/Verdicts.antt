-- What an update is of which all bytes came, or whose fault is settled before.
use Rattle.std.proofs.Common.{◌≡◌, ◌≢◌, inl, inr, ⊎_elim, ℕ, ◌+◌, ◌*◌, ◌<◌, ◌≤◌, List, [], ◌∷◌, ◌++◌, length, map, take, drop, refl, sym, subst, ap, ◌∙◌, arith, append_assoc, length-append}
use Rattle.std.specs.List.{range_with_len}
use Rattle.std.proofs.lemmas.List.{take_at, drop_at, take_all, append-nil}
use Rattle.fault_rule.specs.Checks.{AllPass, IsFirst}
use Rattle.fault_rule.proofs.Alike.{AreAlike, first_alike, numbered_alike}
use Rattle.fault_rule.proofs.Numbered.{all_pass}
use Rattle.fault_rule.proofs.Search.{first_fails, first_in_front, first_behind}
use Rattle.uc_bytes.specs.Words.{word_sum_of}
use Rattle.uc_bytes.specs.declared.causes.FileCause.{FileCause}
use Rattle.uc_bytes.specs.declared.causes.FileCause.TheVariants.{Short, SizeUnaligned, TotalSmall, DataPastTotal, Version, Truncated, ExtCut, ExtCount, ExtSum, EntrySum, Sum}
use Rattle.uc_bytes.proofs.Fronts.{word-append}
use Rattle.intel_format.specs.declared.header.IntelHeader.{IntelHeader}
use Rattle.intel_format.specs.Header.{header_of, data_len, total_len, header_triple}
use Rattle.intel_format.specs.Update.{IsIntelUpdate, IsTable, IsSoundHeader, entry_count}
use Rattle.intel_format.specs.Checks.{Fails, TableFails, header_checks, table_checks, body_checks, IsFirstTableFault, IsFirstHeaderFault, IsFirstFault, table_of, head_and_data}
use Rattle.intel_format.specs.Settled.{IsCut}
use Rattle.intel_format.proofs.Front.{header_of-append}
use Rattle.intel_format.proofs.Passes.{some_table}
use Rattle.intel_file.specs.Progress.{IsUpdateFault, IsDoomed, HasHeader}

module _ (before : ℕ) (bytes : List ℕ) where
  abbrev FailsHere : FileCause → Type 0
  FailsHere = Fails before bytes

  abbrev table : List ℕ
  table = table_of bytes

  abbrev triple : ℕ
  triple = header_triple (header_of bytes)

  -- the first check that fails of a table that is there is so of those of a table within an update
  of_table : 0 < length table → (cause : FileCause) → IsFirstTableFault triple table cause → IsFirst FailsHere (table_checks table) cause
  of_table some cause first =
      let entries : AreAlike (TableFails triple table) FailsHere (map EntrySum (range_with_len 0 (entry_count table))) =
      numbered_alike _ _ EntrySum 0 (entry_count table) (λ i fails. (some, fails)) (λ i fails. fails.1) in
      let alike : AreAlike (TableFails triple table) FailsHere (table_checks table) =
      ((λ fails. (some, fails), λ fails. fails.1), ((λ fails. (some, fails), λ fails. fails.1), ((λ fails. (some, fails), λ fails. fails.1), entries))) in
      first_alike _ FailsHere (table_checks table) cause alike first

  -- where the table is sound, or none stands there, its checks pass
  table_pass : (pairs : List (ℕ × ℕ)) → IsTable triple table pairs → AllPass FailsHere (table_checks table)
  table_pass pairs is =
      let passes : (cause : FileCause) → (0 < length table) × TableFails triple table cause → ⊥ =
      λ cause fails. some_table triple table pairs cause is fails.0 fails.1 in
      (passes ExtCut, (passes ExtCount, (passes ExtSum, all_pass FailsHere EntrySum 0 (entry_count table) (λ i least most. passes (EntrySum i)))))

  module _ (few : before < 65536) (long : 48 ≤ length bytes) (sound : IsSoundHeader (header_of bytes)) where
    header_pass : AllPass FailsHere header_checks
    header_pass =
        let short : FailsHere Short → ⊥ = λ fails. omega (arith, long, fails) in
        let sizes : FailsHere SizeUnaligned → ⊥ = ⊎_elim (λ odd. odd sound.data_in_words) (λ odd. odd sound.total_in_words) in
        let total : FailsHere TotalSmall → ⊥ = λ fails. omega (arith, sound.header_fits, fails) in
        let data_end : FailsHere DataPastTotal → ⊥ = λ fails. omega (arith, sound.data_fits, fails) in
        let version : FailsHere Version → ⊥ = ⊎_elim (λ other. other sound.version) (λ other. other sound.loader) in
        (short, (sizes, (total, (data_end, (version, tt)))))

    -- behind a sound header the length is checked, the table, and the sum
    behind_header : (cause : FileCause) → IsFirst FailsHere (body_checks bytes) cause → IsFirstFault before bytes cause
    behind_header cause first = inr (λ many. omega (arith, few, many), first_behind FailsHere (body_checks bytes) header_checks cause header_pass first)

    -- an update is cut off
    pub cut_off : length bytes < total_len (header_of bytes) → IsFirstFault before bytes Truncated
    cut_off short = behind_header Truncated (inl (short, refl))

    module _ (whole : total_len (header_of bytes) ≤ length bytes) where
      table_fault : (cause : FileCause) → 0 < length table → IsFirstTableFault triple table cause → IsFirstFault before bytes cause
      table_fault cause some first =
          behind_header cause (inr (λ cut. omega (arith, whole, cut), first_in_front FailsHere (Sum ∷ []) (table_checks table) cause (of_table some cause first)))

      sum_fault : (pairs : List (ℕ × ℕ)) → IsTable triple table pairs → word_sum_of (head_and_data bytes) ≢ 0 → IsFirstFault before bytes Sum
      sum_fault pairs is other =
          behind_header Sum (inr (λ cut. omega (arith, whole, cut), first_behind FailsHere (Sum ∷ []) (table_checks table) Sum (table_pass pairs is) (inl (other, refl))))

-- a fault of a table is none of a cut update
uncut_table : (triple : ℕ) (table : List ℕ) (cause : FileCause) → TableFails triple table cause → IsCut cause → ⊥
uncut_table sum rest Short fails cut = fails
uncut_table sum rest Truncated fails cut = fails
uncut_table sum rest cause fails cut = absurd cut

-- nor is one of a header that came whole
uncut_header : (bytes : List ℕ) (cause : FileCause) → 48 ≤ length bytes → IsFirstHeaderFault bytes cause → IsCut cause → ⊥
uncut_header bytes cause long (inl short) cut = omega (arith, long, short.0)
uncut_header bytes cause long (inr (_, inl first)) cut = subst IsCut first.1 cut
uncut_header bytes cause long (inr (_, inr (_, inl first))) cut = subst IsCut first.1 cut
uncut_header bytes cause long (inr (_, inr (_, inr (_, inl first)))) cut = subst IsCut first.1 cut
uncut_header bytes cause long (inr (_, inr (_, inr (_, inr (_, inl first))))) cut = subst IsCut first.1 cut
uncut_header bytes cause long (inr (_, inr (_, inr (_, inr (_, inr first))))) cut = first.1

itself : {P : Type 0} → (P → P) × (P → P)
itself = (λ p. p, λ p. p)

-- a fault of a header is one of the update that it begins
pub header_fault : (bytes : List ℕ) (cause : FileCause) → 48 ≤ length bytes → IsFirstHeaderFault bytes cause → IsUpdateFault bytes cause
header_fault bytes cause long first = (
  λ before few.
      let alike : AreAlike (Fails 0 bytes) (Fails before bytes) header_checks = (itself, (itself, (itself, (itself, (itself, tt))))) in
      inr (λ many. omega (arith, few, many), first_in_front (Fails before bytes) (body_checks bytes) header_checks cause (first_alike (Fails 0 bytes) (Fails before bytes) header_checks cause alike first)),
  uncut_header bytes cause long first,
)

-- the update by what came of it: header and data, and what stands behind them
module _ (h : IntelHeader) (done table own : List ℕ) (split : own ≡ done ++ table) (has : HasHeader h done) (ended : length done ≡ 48 + data_len h) (whole : length own ≡ total_len h) where
  header_own : h ≡ header_of own
  header_own = has.header ∙ sym (header_of-append done table has.long) ∙ ap header_of (sym split)

  long_own : 48 ≤ length own
  long_own = omega (arith, has.long, ap length split, length-append done table)

  sound_own : IsSoundHeader (header_of own)
  sound_own = subst IsSoundHeader header_own has.sound

  whole_own : total_len (header_of own) ≤ length own
  whole_own = omega (arith, whole, ap total_len header_own)

  data_of : take (48 + data_len h) own ≡ done
  data_of = ap (λ (l : List ℕ). take (48 + data_len h) l) split ∙ take_at done table (48 + data_len h) ended

  rest_of : drop (48 + data_len h) own ≡ table
  rest_of = ap (λ (l : List ℕ). drop (48 + data_len h) l) split ∙ drop_at done table (48 + data_len h) ended

  data_own : head_and_data own ≡ done
  data_own = ap (λ (g : IntelHeader). take (48 + data_len g) own) (sym header_own) ∙ data_of

  table_own : table_of own ≡ table
  table_own =
      ap (λ (g : IntelHeader). drop (48 + data_len g) (take (total_len g) own)) (sym header_own)
      ∙ ap (λ (l : List ℕ). drop (48 + data_len h) l) (take_all (total_len h) own (omega (arith, whole))) ∙ rest_of

  table_here : (P : ℕ → List ℕ → Type 0) → P (header_triple h) table → P (header_triple (header_of own)) (table_of own)
  table_here P held =
      subst (λ (g : IntelHeader). P (header_triple g) (table_of own)) header_own (subst (λ (r : List ℕ). P (header_triple h) r) (sym table_own) held)

  pub table_fault_read : (cause : FileCause) → 0 < length table → IsFirstTableFault (header_triple h) table cause → IsUpdateFault own cause
  table_fault_read cause some first = (
    λ before few.
        table_fault before own few long_own sound_own whole_own cause (omega (arith, some, ap length table_own)) (table_here (λ triple t. IsFirstTableFault triple t cause) first),
    uncut_table (header_triple h) table cause (first_fails (TableFails (header_triple h) table) (table_checks table) cause first),
  )

  module _ (pairs : List (ℕ × ℕ)) (is : IsTable (header_triple h) table pairs) where
    pub sum_fault_read : word_sum_of done ≢ 0 → IsUpdateFault own Sum
    sum_fault_read other = (
      λ before few.
          sum_fault before own few long_own sound_own whole_own pairs (table_here (λ triple t. IsTable triple t pairs) is) (λ none. other (ap word_sum_of (sym data_own) ∙ none)),
      λ cut. cut,
    )

    pub update_read : word_sum_of done ≡ 0 → IsIntelUpdate own h pairs
    update_read sum = record {
      header = header_own;
      sound = has.sound;
      whole = whole;
      sum = ap word_sum_of data_of ∙ sum;
      table = subst (λ (t : List ℕ). IsTable (header_triple h) t pairs) (sym rest_of) is;
    }

-- what is left is too short for a table's head
pub doomed_cut : (h : IntelHeader) (done : List ℕ) → HasHeader h done → length done ≡ 48 + data_len h → length done < total_len h → total_len h < length done + 20 → IsDoomed h done ExtCut
doomed_cut h done has ended some short = λ more whole.
    table_fault_read h done more (done ++ more) refl has ended (length-append done more ∙ whole) ExtCut (omega (arith, some, whole)) (inl (omega (arith, short, whole), refl))

-- the count of a table does not go with its length
pub doomed_count : (h : IntelHeader) (done head : List ℕ) (count : ℕ) → HasHeader h done → length done ≡ 48 + data_len h → length head ≡ 20 → count ≡ entry_count head → length done + 20 ≤ total_len h
    → total_len h ≢ length done + (20 + 12 * count) → IsDoomed h (done ++ head) ExtCount
doomed_count h done head count has ended long counted room other = λ more whole.
    let table : List ℕ = head ++ more in
    let own : (done ++ head) ++ more ≡ done ++ table = append_assoc done head more in
    let total : length done + length table ≡ total_len h = omega (arith, whole, length-append done head, length-append head more) in
    let same : entry_count table ≡ count = word-append head more 0 (omega (arith, long)) ∙ sym counted in
    let some : 20 ≤ length table = omega (arith, long, length-append head more) in
    table_fault_read h done table ((done ++ head) ++ more) own has ended (ap length own ∙ length-append done table ∙ total) ExtCount (omega (arith, some))
    (inr (λ cut. omega (arith, some, cut), inl (λ is. other (omega (arith, total, is, same)), refl)))

-- what more comes does not mend it
pub doomed_on : (h : IntelHeader) (own unit : List ℕ) (cause : FileCause) → IsDoomed h own cause → IsDoomed h (own ++ unit) cause
doomed_on h own unit cause doomed = λ more whole.
    subst (λ (l : List ℕ). IsUpdateFault l cause) (sym (append_assoc own unit more)) (doomed (unit ++ more) (omega (arith, whole, length-append own unit, length-append unit more)))

pub doomed_now : (h : IntelHeader) (own : List ℕ) (cause : FileCause) → IsDoomed h own cause → length own ≡ total_len h → IsUpdateFault own cause
doomed_now h own cause doomed whole =
    subst (λ (l : List ℕ). IsUpdateFault l cause) (append-nil own) (doomed [] (omega (arith, whole)))
