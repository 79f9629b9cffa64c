use Rattle.std.proofs.Common.{ℕ, List, ◌++◌, subst}
use Rattle.session_steps.specs.session_text.Lines.{answer_line}
use Rattle.session_steps.specs.Did.{ups_text}
use Rattle.uc_session.specs.Playing.{Tells}
use Rattle.uc_session.proofs.playing.play_plain.Goals as goal

pub returns-clause-acted : goal.returns-clause-acted
returns-clause-acted g c = (
  c.act.result,
  c.act.ensures.read,
  c.act.ensures.step,
  subst (λ (names : List (List ℕ)). Tells g.S.Sink.stands g.S.Sink.faults c.args.out.now c.tell.new.out (ups_text c.act.result.ups.items ++ answer_line names c.act.result.answer) c.act.result.answer c.tell.result)
      c.names_in.ensures c.tell.ensures,
)
