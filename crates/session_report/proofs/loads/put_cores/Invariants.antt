use Rattle.std.proofs.Common.{ℕ, Ok}
use Rattle.std.specs.List.{flat_map, range_with_len}
use Rattle.uc_io.specs.Writing.{Writes}
use Rattle.uc_io.specs.declared.sinks.SinkFailed.{SinkFailed}
use Rattle.ctl_words.specs.Plans.{plan_of}
use Rattle.session_report.specs.Loads.{line_of_core}
use Rattle.session_report.proofs.loads.put_cores.Given as goal

abbrev pub invariant-cores : goal.invariant-cores
invariant-cores g l =
    (before : ℕ → ℕ) → Writes {E = SinkFailed} g.S.Sink.stands g.S.Sink.faults l.fn.out l.out (flat_map (line_of_core l.topology (plan_of l.plan) l.revs before) (range_with_len 0 l.core)) (Ok tt)
