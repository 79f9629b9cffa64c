-- The checks of an update, in their order. The first that fails is the fault.
use Rattle.std.specs.Prelude.{◌≡◌, ◌≢◌, ◌⊎◌, ℕ, ◌+◌, ◌*◌, ◌%◌, ◌<◌, ◌≤◌, List, [], ◌∷◌, ◌++◌, length, map, take, drop}
use Rattle.std.specs.List.{range_with_len}
use Rattle.fault_rule.specs.Checks.{IsFirst}
use Rattle.uc_bytes.specs.declared.causes.FileCause.{FileCause}
use Rattle.uc_bytes.specs.declared.causes.FileCause.TheVariants.{Short, SizeUnaligned, TotalSmall, DataPastTotal, Version, Truncated, ExtCut, ExtCount, ExtSum, EntrySum, Sum, TooMany}
use Rattle.uc_bytes.specs.Words.{word_sum_of}
use Rattle.intel_format.specs.Header.{header_of, data_len, total_len, header_triple}
use Rattle.intel_format.specs.Update.{entry_count, entry_sum}

-- the header and data of the update that begins the bytes
abbrev pub head_and_data : List ℕ → List ℕ
head_and_data bytes = take (48 + data_len (header_of bytes)) bytes

-- what stands after its data, up to its total size
abbrev pub table_of : List ℕ → List ℕ
table_of bytes =
    drop (48 + data_len (header_of bytes)) (take (total_len (header_of bytes)) bytes)

-- the check that a cause names fails at an extended signature table
abbrev pub TableFails : ℕ → List ℕ → FileCause → Type 0
TableFails triple table ExtCut = length table < 20
TableFails triple table ExtCount = length table ≢ 20 + 12 * entry_count table
TableFails triple table ExtSum = word_sum_of table ≢ 0
TableFails triple table (EntrySum i) =
    (i < entry_count table) × (entry_sum table i ≢ triple) × ((j : ℕ) → j < i → entry_sum table j ≡ triple)
TableFails triple table cause = ⊥

-- the check that a cause names fails at the update that begins the bytes, where so many updates stand before it
abbrev pub Fails : ℕ → List ℕ → FileCause → Type 0
Fails before bytes TooMany = 65536 ≤ before
Fails before bytes Short = length bytes < 48
Fails before bytes SizeUnaligned =
    (data_len (header_of bytes) % 4 ≢ 0) ⊎ (total_len (header_of bytes) % 4 ≢ 0)
Fails before bytes TotalSmall = total_len (header_of bytes) < 48
Fails before bytes DataPastTotal =
    total_len (header_of bytes) < 48 + data_len (header_of bytes)
Fails before bytes Version =
    ((header_of bytes).version ≢ 1) ⊎ ((header_of bytes).loader ≢ 1)
Fails before bytes Truncated = length bytes < total_len (header_of bytes)
Fails before bytes Sum = word_sum_of (head_and_data bytes) ≢ 0
Fails before bytes cause =
    (0 < length (table_of bytes)) × TableFails (header_triple (header_of bytes)) (table_of bytes) cause

-- the checks of a header, in their order
abbrev pub header_checks : List FileCause
header_checks = Short ∷ SizeUnaligned ∷ TotalSmall ∷ DataPastTotal ∷ Version ∷ []

-- the checks of an extended signature table, in their order: behind those of the whole table, one for each entry
abbrev pub table_checks : List ℕ → List FileCause
table_checks table = ExtCut ∷ ExtCount ∷ ExtSum ∷ map EntrySum (range_with_len 0 (entry_count table))

-- the checks of what an update has behind its header, in their order
abbrev pub body_checks : List ℕ → List FileCause
body_checks bytes = Truncated ∷ (table_checks (table_of bytes) ++ (Sum ∷ []))

-- the checks of the update that begins the bytes, in their order
abbrev pub update_checks : List ℕ → List FileCause
update_checks bytes = TooMany ∷ (header_checks ++ body_checks bytes)

-- the cause is the first check of a header that fails, wherever in a file the header stands
abbrev pub IsFirstHeaderFault : List ℕ → FileCause → Type 0
IsFirstHeaderFault bytes = IsFirst (Fails 0 bytes) header_checks

-- the same of a table
abbrev pub IsFirstTableFault : ℕ → List ℕ → FileCause → Type 0
IsFirstTableFault triple table = IsFirst (TableFails triple table) (table_checks table)

-- the same of an update
abbrev pub IsFirstFault : ℕ → List ℕ → FileCause → Type 0
IsFirstFault before bytes = IsFirst (Fails before bytes) (update_checks bytes)
