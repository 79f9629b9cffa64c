use Rattle.std.proofs.Common.{ℕ, List, ◌++◌, subst}
use Rattle.uc_io.specs.Writing.{Writes}
use Rattle.uc_io.proofs.Writes.{Writes-then, Writes-more}
use Rattle.session_steps.specs.rendezvous_steps.declared.ends.End.{End}
use Rattle.ctl_words.specs.Plans.{plan_of}
use Rattle.session_steps.specs.session_text.Lines.{answer_line}
use Rattle.session_steps.specs.Did.{results_text}
use Rattle.uc_session.proofs.loads.put_end.Goals as goal

pub returns-in_err-put_results : goal.returns-in_err-put_results
returns-in_err-put_results g c = λ setting state puts offers is_machine is_plan.
    subst
    (λ (ends : List End). Writes g.S.Sink.stands g.S.Sink.faults c.args.out.now c.put_results.new.out (results_text setting state (plan_of c.args.plan.now) (record { decide = c.args.outcome.now.decide; ends = ends; revs = c.args.outcome.now.revs.items }) ++ answer_line c.args.names.now c.args.answer) c.from_residual.result)
    c.as_slice.ensures.value
    (subst
    (λ (revs : List ℕ). Writes g.S.Sink.stands g.S.Sink.faults c.args.out.now c.put_results.new.out (results_text setting state (plan_of c.args.plan.now) (record { decide = c.args.outcome.now.decide; ends = c.as_slice.result.now; revs = revs }) ++ answer_line c.args.names.now c.args.answer) c.from_residual.result)
    c.as_slice-2.ensures.value
    (Writes-more g.S.Sink.stands g.S.Sink.faults _ _ _ _ _ _ c.from_residual.ensures.0
    (c.in_err-put_results.ensures setting state puts offers c.args.outcome.now.decide is_machine is_plan)))

pub returns : goal.returns
returns g c = λ setting state puts offers is_machine is_plan.
    subst
    (λ (ends : List End). Writes g.S.Sink.stands g.S.Sink.faults c.args.out.now c.put_answer.new.out (results_text setting state (plan_of c.args.plan.now) (record { decide = c.args.outcome.now.decide; ends = ends; revs = c.args.outcome.now.revs.items }) ++ answer_line c.args.names.now c.args.answer) c.put_answer.result)
    c.as_slice.ensures.value
    (subst
    (λ (revs : List ℕ). Writes g.S.Sink.stands g.S.Sink.faults c.args.out.now c.put_answer.new.out (results_text setting state (plan_of c.args.plan.now) (record { decide = c.args.outcome.now.decide; ends = c.as_slice.result.now; revs = revs }) ++ answer_line c.args.names.now c.args.answer) c.put_answer.result)
    c.as_slice-2.ensures.value
    (Writes-then g.S.Sink.stands g.S.Sink.faults _ _ _ _ _ _
    (c.in_ok-put_results.ensures setting state puts offers c.args.outcome.now.decide is_machine is_plan) c.put_answer.ensures))
