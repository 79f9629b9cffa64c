use Rattle.std.proofs.Common.{Ok, ◌-◌, ◌≤◌, length, get_or}
use Rattle.std.specs.List.{flat_map, range_with_len}
use Rattle.uc_io.specs.Writing.{Writes}
use Rattle.uc_io.specs.declared.sinks.SinkFailed.{SinkFailed}
use Rattle.report_text.specs.Lines.{pair_line}
use Rattle.uc_catalog.specs.Contents.{entry_at}
use Rattle.uc_report.proofs.list.put_pairs.Given as goal

abbrev pub invariant-pairs : goal.invariant-pairs
invariant-pairs g l = record {
  within : l.k - 1 ≤ length (entry_at l.catalog l.i).pairs - 1;
  wrote : Writes {E = SinkFailed} g.S.Sink.stands g.S.Sink.faults l.fn.out l.out (flat_map (λ k. pair_line (get_or (entry_at l.catalog l.i).pairs k (0, 0))) (range_with_len 1 (l.k - 1))) (Ok tt);
}
