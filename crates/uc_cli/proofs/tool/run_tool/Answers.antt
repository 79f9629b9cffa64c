use Rattle.std.proofs.Common.{[], None, refl, sym, subst}
use Rattle.status_rule.specs.declared.status.Status.TheVariants.{Usage}
use Rattle.status_rule.proofs.Endings.{Ends-written, ended_cause, Written-ends}
use Rattle.tool_text.specs.report_text.Lines.{usage_line}
use Rattle.tool_text.specs.Words.{Asked, Faulty}
use Rattle.tool_text.specs.Tool.{AskedText, FromReads, CanBeDone}
use Rattle.tool_text.proofs.read_model.Outcomes.{held_nil}
use Rattle.uc_cli.specs.Words.{asked_of}
use Rattle.uc_cli.specs.Ends.{MayEnd}
use Rattle.uc_cli.proofs.Endings.{no_file, done_or_memory}
use Rattle.uc_cli.proofs.StatusKinds.{written_ends, usage_ends}
use Rattle.uc_cli.proofs.Headline.{holding, caused}
use Rattle.uc_cli.proofs.tool.run_tool.Goals as goal

pub returns-in-Ok-clause-usage : goal.returns-in-Ok-clause-usage
returns-in-Ok-clause-usage g c = rw c.in-Ok.ensures.asks c.run.ensures.usage

pub returns-in-Ok-clause-ends : goal.returns-in-Ok-clause-ends
returns-in-Ok-clause-ends g c =
    subst (λ (line : Asked). MayEnd line c.run.result) (sym c.in-Ok.ensures.asks)
    (written_ends g.S.Sink.stands _ _ _ _ _ (asked_of c.in-Ok.command) c.run.result c.run.ensures.written)

pub returns-in-Err-clause-ends : goal.returns-in-Err-clause-ends
returns-in-Err-clause-ends g c = usage_ends _ c.in-Err.index c.after_write.result c.put_usage.result c.after_write.ensures

pub returns-in-Ok-clause-done : goal.returns-in-Ok-clause-done
returns-in-Ok-clause-done g c = λ tell can no_read no_write.
    let holds = g.F.Files.holds c.args.files.now in
    done_or_memory c.done_where_it_can_be.ensures g.S.Sink.stands _ _ (g.F.Pieces.tells c.args.files.now) (asked_of c.in-Ok.command) holds _ (g.F.Pieces.faults c.args.files.now, g.F.Pieces.faults c.run.new.files) (g.S.Sink.faults c.args.out.now, g.S.Sink.faults c.run.new.out) c.run.result tell
    (subst (λ (line : Asked). CanBeDone line holds) c.in-Ok.ensures.asks can)
    c.run.ensures.written
    c.run.ensures.read_cause
    c.run.ensures.write_cause
    no_read
    no_write

pub returns-in-Err-clause-write_cause : goal.returns-in-Err-clause-write_cause
returns-in-Err-clause-write_cause g c =
    ended_cause g.S.Sink.stands g.S.Sink.faults _ _ _ (Usage c.in-Err.index) _ (λ e. cc)
    (Ends-written g.S.Sink.stands g.S.Sink.faults _ _ _ (Usage c.in-Err.index) _ _ c.put_usage.ensures c.after_write.ensures)

pub returns-in-Ok-clause-headline : goal.returns-in-Ok-clause-headline
returns-in-Ok-clause-headline g c =
    rw c.in-Ok.ensures.asks
    (holding c.each_text_holds.ensures (g.F.Pieces.tells c.args.files.now) (g.F.Files.holds c.args.files.now) _ g.S.Sink.stands
    _ _ (asked_of c.in-Ok.command) c.run.result c.run.ensures.written)

pub returns-in-Ok-clause-session : goal.returns-in-Ok-clause-session
returns-in-Ok-clause-session g c =
    rw c.in-Ok.ensures.asks
    (caused c.each_text_has_its_cause.ensures (g.F.Pieces.tells c.args.files.now) (g.F.Files.holds c.args.files.now) _
    g.S.Sink.stands _ _ (asked_of c.in-Ok.command) c.run.result c.run.ensures.written)

pub returns-in-Err-clause-written : goal.returns-in-Err-clause-written
returns-in-Err-clause-written g c =
    let tells = g.F.Pieces.tells c.args.files.now in
    let holds = g.F.Files.holds c.args.files.now in
    rw c.in-Err.ensures.asks
    (Written-ends (FromReads tells holds (AskedText (Faulty c.in-Err.index))) _ g.S.Sink.stands g.S.Sink.faults _ _ None (usage_line c.in-Err.index) (Usage c.in-Err.index) _ tt
    (record { reads = []; held = λ told. held_nil holds; is_text = (refl, refl, refl) })
    tt
    no_file
    (Ends-written g.S.Sink.stands g.S.Sink.faults _ _ _ (Usage c.in-Err.index) _ _ c.put_usage.ensures c.after_write.ensures))

pub returns-in-Err-clause-headline : goal.returns-in-Err-clause-headline
returns-in-Err-clause-headline g c =
    holding c.each_text_holds.ensures (g.F.Pieces.tells c.args.files.now) (g.F.Files.holds c.args.files.now) _ g.S.Sink.stands
    _ _ _ _ (returns-in-Err-clause-written g c)

pub returns-in-Err-clause-session : goal.returns-in-Err-clause-session
returns-in-Err-clause-session g c =
    caused c.each_text_has_its_cause.ensures (g.F.Pieces.tells c.args.files.now) (g.F.Files.holds c.args.files.now) _
    g.S.Sink.stands _ _ _ _ (returns-in-Err-clause-written g c)

pub returns-in-Ok-clause-resumes : goal.returns-in-Ok-clause-resumes
returns-in-Ok-clause-resumes g c = c.a_resume_brings_back.ensures.resume

pub returns-in-Ok-clause-cold : goal.returns-in-Ok-clause-cold
returns-in-Ok-clause-cold g c = c.a_resume_brings_back.ensures.cold

pub returns-in-Err-clause-resumes : goal.returns-in-Err-clause-resumes
returns-in-Err-clause-resumes g c = c.a_resume_brings_back.ensures.resume

pub returns-in-Err-clause-cold : goal.returns-in-Err-clause-cold
returns-in-Err-clause-cold g c = c.a_resume_brings_back.ensures.cold
