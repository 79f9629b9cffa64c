-- The first entry that does not sum to what the header does is the table's fault, where its other checks pass.
use Rattle.std.proofs.Common.{◌≡◌, inr, ℕ, ◌+◌, ◌*◌, ◌≤◌, List, length, arith}
use Rattle.fault_rule.proofs.Numbered.{first_at}
use Rattle.uc_bytes.specs.Words.{word_sum_of}
use Rattle.uc_bytes.specs.declared.causes.FileCause.TheVariants.{EntrySum}
use Rattle.intel_format.specs.Update.{entry_count}
use Rattle.intel_format.specs.Checks.{TableFails, IsFirstTableFault}

pub entry_fault : (triple : ℕ) (table : List ℕ) (entry : ℕ) → 20 ≤ length table → length table ≡ 20 + 12 * entry_count table → word_sum_of table ≡ 0 → TableFails triple table (EntrySum entry) → IsFirstTableFault triple table (EntrySum entry)
entry_fault triple table entry long whole sum fails =
    inr (
      λ cut. omega (arith, long, cut),
      inr (
        λ other. other whole,
        inr (
          λ other. other sum,
          first_at (TableFails triple table) EntrySum 0 (entry_count table) entry (omega arith) (omega (arith, fails.0)) fails (λ j least below bad. bad.1 (fails.2 j below)),
        ),
      ),
    )
