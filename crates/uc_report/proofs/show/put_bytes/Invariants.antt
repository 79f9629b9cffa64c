use Rattle.std.proofs.Common.{Ok, ◌*◌, take, drop}
use Rattle.std.specs.List.{flat_map, range_with_len}
use Rattle.uc_io.specs.Writing.{Writes}
use Rattle.uc_io.specs.declared.sinks.SinkFailed.{SinkFailed}
use Rattle.report_text.specs.Show.{hex_line}
use Rattle.uc_report.proofs.show.put_bytes.Given as goal

abbrev pub invariant-rows : goal.invariant-rows
invariant-rows g l =
    Writes {E = SinkFailed} g.S.Sink.stands g.S.Sink.faults l.fn.out l.out (flat_map (λ i. hex_line (take 32 (drop (32 * i) l.bytes))) (range_with_len 0 l.row)) (Ok tt)
