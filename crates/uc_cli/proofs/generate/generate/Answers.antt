use Rattle.std.proofs.Common.{ℕ, List, [], None, refl, sym, subst}
use Rattle.uc_io.specs.Writing.{Writes}
use Rattle.status_rule.proofs.Endings.{Ends-written, ended_cause, Written-ends}
use Rattle.status_rule.specs.Status.{RanToItsEnd}
use Rattle.status_rule.specs.Written.{GoesWith}
use Rattle.tool_text.specs.Plays.{GenText, summary_line}
use Rattle.uc_cli.specs.Generating.{WasPlayed}
use Rattle.uc_cli.proofs.Generating.{has_text, summary_is}
use Rattle.uc_cli.proofs.Endings.{no_file, memory_written}
use Rattle.uc_cli.proofs.generate.generate.Goals as goal

pub returns-in-Ok-clause-written : goal.returns-in-Ok-clause-written
returns-in-Ok-clause-written g c =
    let played : WasPlayed c.args.number c.in-Ok.answer c.in-Ok.tally = c.in-Ok.ensures in
    Written-ends (GenText c.args.number []) ⊥ g.S.Sink.stands g.S.Sink.faults c.args.out.now c.put_summary.new.out None
    (summary_line c.args.number played.whole) c.status_of.result c.after_write.result (subst RanToItsEnd (sym c.status_of.ensures) played.ran)
    (record {
      no_reads = refl;
      none_fails = refl;
      whole = played.whole;
      answer = c.in-Ok.answer;
      generated = played.generated;
      lines = refl;
      is_status = c.status_of.ensures;
    })
    (subst (GoesWith None) (sym c.status_of.ensures) played.goes) no_file
    (Ends-written g.S.Sink.stands g.S.Sink.faults _ _ _ c.status_of.result _ _
    (subst (λ (text : List ℕ). Writes g.S.Sink.stands g.S.Sink.faults c.args.out.now c.put_summary.new.out text c.put_summary.result)
    (summary_is c.args.number c.in-Ok.tally played.whole played.tallies) c.put_summary.ensures)
    c.after_write.ensures)

pub returns-in-Ok-clause-write_cause : goal.returns-in-Ok-clause-write_cause
returns-in-Ok-clause-write_cause g c =
    let played : WasPlayed c.args.number c.in-Ok.answer c.in-Ok.tally = c.in-Ok.ensures in
    ended_cause g.S.Sink.stands g.S.Sink.faults _ _ _ c.status_of.result _
    (λ fault. subst RanToItsEnd fault (subst RanToItsEnd (sym c.status_of.ensures) played.ran))
    (Ends-written g.S.Sink.stands g.S.Sink.faults _ _ _ c.status_of.result _ _ c.put_summary.ensures c.after_write.ensures)

pub returns-in-Err-clause-written : goal.returns-in-Err-clause-written
returns-in-Err-clause-written g c =
    memory_written g.S.Sink.stands g.S.Sink.faults c.args.out.now c.refuse.new.out (GenText c.args.number []) ⊥ c.refuse.result
    (has_text c.args.number (λ name. []) (c.some_session_text.ensures.generated c.args.number (λ name. []))) c.refuse.ensures.ends
