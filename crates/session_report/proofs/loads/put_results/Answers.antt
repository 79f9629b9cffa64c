use Rattle.std.proofs.Common.{ℕ, List, subst}
use Rattle.uc_io.specs.Writing.{Writes}
use Rattle.uc_io.proofs.Writes.{Writes-then, Writes-more}
use Rattle.ctl_words.specs.Plans.{plan_of}
use Rattle.session_report.proofs.LoadTexts.{all_results}
use Rattle.session_report.proofs.loads.put_results.Goals as goal

pub returns-in_err-put_threads : goal.returns-in_err-put_threads
returns-in_err-put_threads g c = λ setting state puts offered decide is_machine is_plan.
    subst (λ (text : List ℕ). Writes g.S.Sink.stands g.S.Sink.faults c.args.out.now c.put_threads.new.out text c.from_residual.result)
    (all_results setting state puts offered c.args.topology.now (plan_of c.args.plan.now) (record { decide = decide; ends = c.args.ends.now; revs = c.args.revs.now }) is_machine is_plan)
    (Writes-more g.S.Sink.stands g.S.Sink.faults _ _ _ _ _ _ c.from_residual.ensures.0 c.in_err-put_threads.ensures)

pub returns : goal.returns
returns g c = λ setting state puts offered decide is_machine is_plan.
    subst (λ (text : List ℕ). Writes g.S.Sink.stands g.S.Sink.faults c.args.out.now c.put_cores.new.out text c.put_cores.result)
    (all_results setting state puts offered c.args.topology.now (plan_of c.args.plan.now) (record { decide = decide; ends = c.args.ends.now; revs = c.args.revs.now }) is_machine is_plan)
    (Writes-then g.S.Sink.stands g.S.Sink.faults _ _ _ _ _ _ c.in_ok-put_threads.ensures (c.put_cores.ensures state.hardware.rev))
