use Rattle.std.proofs.Common.{ℕ, ◌+◌, ◌≡◌, Ok, length, arith, subst}
use Rattle.std.specs.List.{flat_map, range_with_len}
use Rattle.uc_io.specs.Writing.{Writes}
use Rattle.uc_io.specs.declared.sinks.SinkFailed.{SinkFailed}
use Rattle.uc_report.proofs.Counted.{Writes-number, Writes-number-cut}
use Rattle.ctl_words.specs.Plans.{plan_of}
use Rattle.session_report.specs.Loads.{line_of_core}
use Rattle.session_report.proofs.loads.put_cores.Goals as goal

pub returns-in_err-put_core_where : goal.returns-in_err-put_core_where
returns-in_err-put_core_where g c = λ before.
    let line = line_of_core c.args.topology.now (plan_of c.args.plan.now) c.args.revs.now before in
    subst (λ (n : ℕ). Writes g.S.Sink.stands g.S.Sink.faults c.args.out.now c.put_core_where.new.out (flat_map line (range_with_len 0 n)) c.from_residual.result) c.cores-core-end.ensures
    (Writes-number-cut g.S.Sink.stands g.S.Sink.faults c.args.out.now c.cores.out c.put_core_where.new.out line 0 c.cores.core c.cores.core (omega arith) c.cores-core-end.result c.in_err-put_core_where.field-0.0 c.from_residual.result c.cores-test.true c.from_residual.ensures.0 (c.cores.invariant before) (c.in_err-put_core_where.ensures before))

pub cores-preserved : goal.cores-preserved
cores-preserved g c = λ before.
    Writes-number {E = SinkFailed} g.S.Sink.stands g.S.Sink.faults c.args.out.now c.cores.out c.put_core_where.new.out (line_of_core c.args.topology.now (plan_of c.args.plan.now) c.args.revs.now before) 0 c.cores.core c.cores.core (omega arith) (c.cores.core + 1) (omega arith) (c.cores.invariant before) (c.in_ok-put_core_where.ensures before)

pub returns : goal.returns
returns g c = λ before.
    let whole : c.cores.core ≡ length c.args.topology.now.stated.cores = omega (arith, c.cores-test.false, c.cores.auto.core-end, c.cores-core-end.ensures) in
    subst (λ (n : ℕ). Writes {E = SinkFailed} g.S.Sink.stands g.S.Sink.faults c.args.out.now c.cores.out (flat_map (line_of_core c.args.topology.now (plan_of c.args.plan.now) c.args.revs.now before) (range_with_len 0 n)) (Ok tt)) whole (c.cores.invariant before)
