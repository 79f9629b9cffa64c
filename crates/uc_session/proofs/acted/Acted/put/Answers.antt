use Rattle.std.proofs.Common.{List, ◌++◌, subst}
use Rattle.uc_io.specs.Writing.{Writes}
use Rattle.uc_io.proofs.Writes.{Writes-then}
use Rattle.session_steps.specs.machine_steps.declared.bring_ups.BringUp.{BringUp}
use Rattle.session_steps.specs.session_text.Lines.{answer_line}
use Rattle.session_steps.specs.Did.{ups_text}
use Rattle.uc_session.proofs.acted.Acted.put.Goals as goal

pub returns : goal.returns
returns g c =
    subst
    (λ (ups : List BringUp). Writes g.S.Sink.stands g.S.Sink.faults c.args.out.now c.put_answer.new.out (ups_text ups ++ answer_line c.args.names.now c.args.self.now.answer) c.put_answer.result)
    c.as_slice.ensures.value
    (Writes-then g.S.Sink.stands g.S.Sink.faults _ _ _ _ _ _ c.in_ok-put_ups.ensures c.put_answer.ensures)
