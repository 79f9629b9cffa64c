use Rattle.std.proofs.Common.{Ok}
use Rattle.std.specs.List.{flat_map, range_with_len}
use Rattle.uc_io.specs.Writing.{Writes}
use Rattle.uc_io.specs.declared.sinks.SinkFailed.{SinkFailed}
use Rattle.ctl_words.specs.Plans.{plan_of}
use Rattle.session_report.proofs.LoadTexts.{thread_at}
use Rattle.session_report.proofs.loads.put_threads.Given as goal

abbrev pub invariant-threads : goal.invariant-threads
invariant-threads g l =
    Writes {E = SinkFailed} g.S.Sink.stands g.S.Sink.faults l.fn.out l.out (flat_map (thread_at (plan_of l.plan) l.ends) (range_with_len 0 l.t)) (Ok tt)
