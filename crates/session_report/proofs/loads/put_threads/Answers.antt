use Rattle.std.proofs.Common.{◌+◌, arith}
use Rattle.uc_io.specs.declared.sinks.SinkFailed.{SinkFailed}
use Rattle.uc_report.proofs.Counted.{Writes-number, Writes-number-cut}
use Rattle.ctl_words.specs.Plans.{plan_of}
use Rattle.session_report.proofs.LoadTexts.{thread_at}
use Rattle.session_report.proofs.loads.put_threads.Goals as goal

pub returns-in_err-put_thread : goal.returns-in_err-put_thread
returns-in_err-put_thread g c =
    Writes-number-cut g.S.Sink.stands g.S.Sink.faults c.args.out.now c.threads.out c.put_thread.new.out (thread_at (plan_of c.args.plan.now) c.args.ends.now) 0 c.threads.t c.threads.t (omega arith) c.args.plan.now.threads c.in_err-put_thread.field-0.0 c.from_residual.result c.threads-test.true c.from_residual.ensures.0 c.threads.invariant c.in_err-put_thread.ensures

pub threads-preserved : goal.threads-preserved
threads-preserved g c =
    Writes-number {E = SinkFailed} g.S.Sink.stands g.S.Sink.faults c.args.out.now c.threads.out c.put_thread.new.out (thread_at (plan_of c.args.plan.now) c.args.ends.now) 0 c.threads.t c.threads.t (omega arith) (c.threads.t + 1) (omega arith) c.threads.invariant c.in_ok-put_thread.ensures
