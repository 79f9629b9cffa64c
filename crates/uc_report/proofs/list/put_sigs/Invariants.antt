use Rattle.std.proofs.Common.{◌-◌, ◌≤◌, Ok, length, take}
use Rattle.std.specs.List.{flat_map}
use Rattle.uc_io.specs.Writing.{Writes}
use Rattle.uc_io.specs.declared.sinks.SinkFailed.{SinkFailed}
use Rattle.entry_model.specs.Entry.{served}
use Rattle.report_text.specs.Lines.{sig_line}
use Rattle.uc_catalog.specs.Contents.{entry_at}
use Rattle.uc_report.proofs.list.put_sigs.Given as goal

abbrev pub invariant-sigs : goal.invariant-sigs
invariant-sigs g l = record {
  within : l.k ≤ length (served (entry_at l.catalog l.i));
  wrote : Writes {E = SinkFailed} g.S.Sink.stands g.S.Sink.faults l.fn.out l.out (flat_map sig_line (take l.k (served (entry_at l.catalog l.i)))) (Ok tt);
}

abbrev pub decreases-sigs : goal.decreases-sigs
decreases-sigs g l = length (served (entry_at l.catalog l.i)) - l.k
