use Rattle.std.proofs.Common.{ℕ, List, Ok, ◌-◌}
use Rattle.std.specs.List.{flat_map, range_with_len}
use Rattle.uc_io.specs.Writing.{Writes}
use Rattle.uc_io.specs.declared.sinks.SinkFailed.{SinkFailed}
use Rattle.report_text.specs.Listing.{AreDateTexts, entry_text}
use Rattle.uc_catalog.specs.Contents.{entry_at}
use Rattle.uc_report.proofs.list.put_entries.Given as goal

abbrev pub invariant-entries : goal.invariant-entries
invariant-entries g l = record {
  wrote : (date_text : ℕ → List ℕ) → AreDateTexts date_text → Writes {E = SinkFailed} g.S.Sink.stands g.S.Sink.faults l.fn.out l.out (flat_map (λ i. entry_text date_text i (entry_at l.catalog i)) (range_with_len l.first (l.i - l.first))) (Ok tt);
}
