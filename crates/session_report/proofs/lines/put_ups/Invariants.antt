use Rattle.std.proofs.Common.{Ok, take}
use Rattle.std.specs.List.{flat_map}
use Rattle.uc_io.specs.declared.sinks.SinkFailed.{SinkFailed}
use Rattle.uc_io.specs.Writing.{Writes}
use Rattle.session_text.specs.Lines.{up_line}
use Rattle.session_report.proofs.lines.put_ups.Given as goal

abbrev pub invariant-loop-up : goal.invariant-loop-up
invariant-loop-up g l =
    Writes {E = SinkFailed} g.S.Sink.stands g.S.Sink.faults l.initial.out l.out (flat_map up_line (take l.up-index l.ups)) (Ok tt)
