-- All checks of an update pass at bytes, or one is the first that fails.
use Rattle.std.proofs.Common.{◌≡◌, ◌≢◌, ◌⊎◌, inl, inr, ℕ, zero, suc, ◌<◌, List, ◌∙◌, ap, arith}
use Rattle.std.proofs.lemmas.Bool.{cases_eq}
use Rattle.fault_rule.specs.Checks.{AllPass}
use Rattle.fault_rule.proofs.Decided.{Decided, decided_not_equal, decided_lt, decided_le, either, both, three}
use Rattle.fault_rule.proofs.Search.{searched}
use Rattle.uc_bytes.specs.declared.causes.FileCause.{FileCause}
use Rattle.uc_bytes.specs.declared.causes.FileCause.TheVariants.{Short, SizeUnaligned, TotalSmall, DataPastTotal, Version, Truncated, ExtCut, ExtCount, ExtSum, EntrySum, Sum, TooMany}
use Rattle.intel_format.specs.Header.{header_of, header_triple}
use Rattle.intel_format.specs.Checks.{Fails, TableFails, table_of, update_checks, IsFirstFault}

-- the first entry that does not sum to a number, or that all do
pub search_entries : (sum : ℕ → ℕ) (triple n : ℕ) → ((i : ℕ) → i < n → sum i ≡ triple) ⊎ ((i : ℕ) × (i < n) × (sum i ≢ triple) × ((j : ℕ) → j < i → sum j ≡ triple))
search_entries sum triple zero = inl (λ i below. absurd (omega arith))
search_entries sum triple (suc n) = elim (search_entries sum triple n) [
  | inr bad ↦ inr (bad.0, omega (arith, bad.1), bad.2, bad.3)
  | inl all ↦ elim (cases_eq (sum n) triple) [
    | inl same ↦ inl (λ i below. elim (cases_eq i n) [ inl here ↦ ap sum here ∙ same | inr there ↦ all i (omega arith) ])
    | inr other ↦ inr (n, omega arith, other, all)
  ]
]

-- so it is decided whether all do
all_good : (sum : ℕ → ℕ) (triple n : ℕ) → Decided ((i : ℕ) → i < n → sum i ≡ triple)
all_good sum triple n = elim (search_entries sum triple n) [
  | inl all ↦ inl all
  | inr bad ↦ inr (λ all. bad.2 (all bad.0 bad.1))
]

-- a check of a table fails or passes
table_decided : (triple : ℕ) (table : List ℕ) (cause : FileCause) → Decided (TableFails triple table cause)
table_decided triple table ExtCut = decided_lt _ _
table_decided triple table ExtCount = decided_not_equal _ _
table_decided triple table ExtSum = decided_not_equal _ _
table_decided triple table (EntrySum i) =
    three (decided_lt _ _) (decided_not_equal _ _) (all_good _ _ _)
table_decided triple table cause = inr (λ fails. fails)

-- a check of an update fails or passes
decided : (before : ℕ) (bytes : List ℕ) (cause : FileCause) → Decided (Fails before bytes cause)
decided before bytes TooMany = decided_le _ _
decided before bytes Short = decided_lt _ _
decided before bytes SizeUnaligned = either (decided_not_equal _ _) (decided_not_equal _ _)
decided before bytes TotalSmall = decided_lt _ _
decided before bytes DataPastTotal = decided_lt _ _
decided before bytes Version = either (decided_not_equal _ _) (decided_not_equal _ _)
decided before bytes Truncated = decided_lt _ _
decided before bytes Sum = decided_not_equal _ _
decided before bytes cause = both (decided_lt _ _) (table_decided (header_triple (header_of bytes)) (table_of bytes) cause)

pub checked : (before : ℕ) (bytes : List ℕ) → ((cause : FileCause) × IsFirstFault before bytes cause) ⊎ AllPass (Fails before bytes) (update_checks bytes)
checked before bytes = searched (Fails before bytes) (decided before bytes) (update_checks bytes)
