-- No check fails at the front of an update, whatever follows it.
use Rattle.std.proofs.Common.{◌≡◌, inl, inr, ⊎_elim, ℕ, ◌+◌, ◌<◌, ◌≤◌, List, ◌++◌, length, take, drop, sym, ◌∙◌, ap, subst, arith, length-append}
use Rattle.std.proofs.lemmas.List.{take_at, take-append-le}
use Rattle.uc_bytes.specs.Words.{word_sum_of}
use Rattle.uc_bytes.specs.declared.causes.FileCause.{FileCause}
use Rattle.uc_bytes.specs.declared.causes.FileCause.TheVariants.{Short, SizeUnaligned, TotalSmall, DataPastTotal, Version, Truncated, ExtCut, ExtCount, ExtSum, EntrySum, Sum, TooMany}
use Rattle.intel_format.specs.declared.header.IntelHeader.{IntelHeader}
use Rattle.intel_format.specs.Header.{header_of, data_len, total_len, header_triple}
use Rattle.intel_format.specs.Update.{IsIntelUpdate, IsTable, IsExtTable, IsSoundHeader}
use Rattle.intel_format.specs.Checks.{Fails, TableFails, table_of, head_and_data}
use Rattle.intel_format.specs.File.{FileUpdate}
use Rattle.intel_format.proofs.OneReading.{header_at_front}

-- the checks, by what holds of the header, the lengths, the sum and the table
sound_passes : (before : ℕ) (bytes : List ℕ) (cause : FileCause) → before < 65536 → IsSoundHeader (header_of bytes) → total_len (header_of bytes) ≤ length bytes → word_sum_of (head_and_data bytes) ≡ 0
    → (0 < length (table_of bytes) → TableFails (header_triple (header_of bytes)) (table_of bytes) cause → ⊥) → Fails before bytes cause → ⊥
sound_passes before bytes TooMany few sound long sum table fails = omega arith
sound_passes before bytes Short few sound long sum table fails = omega (arith, sound.header_fits)
sound_passes before bytes SizeUnaligned few sound long sum table fails = ⊎_elim (λ odd. odd sound.data_in_words) (λ odd. odd sound.total_in_words) fails
sound_passes before bytes TotalSmall few sound long sum table fails = omega (arith, sound.header_fits)
sound_passes before bytes DataPastTotal few sound long sum table fails = omega (arith, sound.data_fits)
sound_passes before bytes Version few sound long sum table fails = ⊎_elim (λ other. other sound.version) (λ other. other sound.loader) fails
sound_passes before bytes Truncated few sound long sum table fails = omega arith
sound_passes before bytes Sum few sound long sum table fails = fails sum
sound_passes before bytes cause few sound long sum table fails = table fails.0 fails.1

-- those of a table, by what holds of it
table_passes : (triple : ℕ) (table : List ℕ) (pairs : List (ℕ × ℕ)) (cause : FileCause) → IsExtTable triple table pairs → TableFails triple table cause → ⊥
table_passes triple table pairs ExtCut is fails = omega (arith, is.whole)
table_passes triple table pairs ExtCount is fails = fails is.whole
table_passes triple table pairs ExtSum is fails = fails is.sum
table_passes triple table pairs (EntrySum i) is fails = fails.1 (is.sums i fails.0)
table_passes triple table pairs cause is fails = absurd fails

pub some_table : (triple : ℕ) (table : List ℕ) (pairs : List (ℕ × ℕ)) (cause : FileCause) → IsTable triple table pairs → 0 < length table → TableFails triple table cause → ⊥
some_table triple table pairs cause (inl none) long fails = absurd (omega (arith, ap length none.0))
some_table triple table pairs cause (inr is) long fails = table_passes triple table pairs cause is fails

pub update_passes : (before : ℕ) (u : FileUpdate) (rest : List ℕ) (cause : FileCause) → before < 65536 → IsIntelUpdate u.bytes u.header u.pairs → Fails before (u.bytes ++ rest) cause → ⊥
update_passes before u rest cause few update =
    let bytes = u.bytes ++ rest in
    let same : header_of bytes ≡ u.header = header_at_front u rest update in
    let front : take (total_len u.header) bytes ≡ u.bytes = take_at u.bytes rest (total_len u.header) update.whole in
    let data_within : 48 + data_len u.header ≤ length u.bytes = omega (arith, update.whole, update.sound.data_fits) in
    let sound : IsSoundHeader (header_of bytes) = subst IsSoundHeader (sym same) update.sound in
    let summed : take (48 + data_len u.header) bytes ≡ take (48 + data_len u.header) u.bytes = take-append-le (48 + data_len u.header) u.bytes rest data_within in
    let sum : word_sum_of (head_and_data bytes) ≡ 0 =
    ap (λ (h : IntelHeader). word_sum_of (take (48 + data_len h) bytes)) same ∙ ap word_sum_of summed ∙ update.sum in
    let table : table_of bytes ≡ drop (48 + data_len u.header) u.bytes =
    ap (λ (h : IntelHeader). drop (48 + data_len h) (take (total_len h) bytes)) same ∙ ap (λ (l : List ℕ). drop (48 + data_len u.header) l) front in
    let is_table : IsTable (header_triple (header_of bytes)) (table_of bytes) u.pairs =
    subst (λ (h : IntelHeader). IsTable (header_triple h) (table_of bytes) u.pairs) (sym same) (subst (λ (l : List ℕ). IsTable (header_triple u.header) l u.pairs) (sym table) update.table) in
    sound_passes before bytes cause few sound (omega (arith, ap total_len same, update.whole, length-append u.bytes rest)) sum (some_table _ _ _ cause is_table)
