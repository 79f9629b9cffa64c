use Rattle.std.proofs.Common.{subst}
use Rattle.tool_text.specs.Words.{Asked, PlayOf}
use Rattle.status_rule.specs.declared.status.Status.TheVariants.{Usage}
use Rattle.status_rule.proofs.Endings.{Ends-written, ended_cause}
use Rattle.live_cli.specs.Able.{CanBeDone}
use Rattle.live_cli.proofs.Complete.{done_or_memory}
use Rattle.live_cli.proofs.Headline.{holding}
use Rattle.live_cli.proofs.Loads.{loads_in_time, late_loads}
use Rattle.live_cli.proofs.Played.{faulty_written}
use Rattle.live_cli.proofs.live.run_live.Goals as goal

pub returns-in-Ok-clause-written : goal.returns-in-Ok-clause-written
returns-in-Ok-clause-written g c = rw c.in-Ok.ensures c.play_live.ensures.written

pub returns-in-Ok-clause-usage : goal.returns-in-Ok-clause-usage
returns-in-Ok-clause-usage g c = rw c.in-Ok.ensures c.play_live.ensures.usage

pub returns-in-Ok-clause-loads_in_time : goal.returns-in-Ok-clause-loads_in_time
returns-in-Ok-clause-loads_in_time g c =
    loads_in_time c.the_verdict_is_the_first_that_holds.ensures.one c.an_outcome_in_time_is_done.ensures

pub returns-in-Ok-clause-late_loads : goal.returns-in-Ok-clause-late_loads
returns-in-Ok-clause-late_loads g c = late_loads

pub returns-in-Err-clause-written : goal.returns-in-Err-clause-written
returns-in-Err-clause-written g c =
    rw c.in-Err.ensures
    (faulty_written (g.F.Pieces.tells c.args.files.now) (g.F.Files.holds c.args.files.now) g.R.Rendezvous.lists (g.R.Rendezvous.limit c.args.how.now) (g.R.Rendezvous.runs c.args.how.now) _ g.S.Sink.stands g.S.Sink.faults _ _ c.in-Err.index _
    (Ends-written g.S.Sink.stands g.S.Sink.faults _ _ _ (Usage c.in-Err.index) _ _ c.put_usage.ensures c.after_write.ensures))

pub returns-in-Err-clause-write_cause : goal.returns-in-Err-clause-write_cause
returns-in-Err-clause-write_cause g c =
    ended_cause g.S.Sink.stands g.S.Sink.faults _ _ _ (Usage c.in-Err.index) _ (λ e. cc)
    (Ends-written g.S.Sink.stands g.S.Sink.faults _ _ _ (Usage c.in-Err.index) _ _ c.put_usage.ensures c.after_write.ensures)

pub returns-in-Err-clause-loads_in_time : goal.returns-in-Err-clause-loads_in_time
returns-in-Err-clause-loads_in_time g c =
    loads_in_time c.the_verdict_is_the_first_that_holds.ensures.one c.an_outcome_in_time_is_done.ensures

pub returns-in-Err-clause-late_loads : goal.returns-in-Err-clause-late_loads
returns-in-Err-clause-late_loads g c = late_loads

pub returns-in-Ok-clause-headline : goal.returns-in-Ok-clause-headline
returns-in-Ok-clause-headline g c =
    holding c.each_text_holds.ensures (g.F.Pieces.tells c.args.files.now) (g.F.Files.holds c.args.files.now) _ _
    g.S.Sink.stands _ _ _ _ _ (returns-in-Ok-clause-written g c)

pub returns-in-Err-clause-headline : goal.returns-in-Err-clause-headline
returns-in-Err-clause-headline g c =
    holding c.each_text_holds.ensures (g.F.Pieces.tells c.args.files.now) (g.F.Files.holds c.args.files.now) _ _
    g.S.Sink.stands _ _ _ _ _ (returns-in-Err-clause-written g c)

pub returns-in-Ok-clause-done : goal.returns-in-Ok-clause-done
returns-in-Ok-clause-done g c = λ silent tell can timely no_read no_write.
    let holds = g.F.Files.holds c.args.files.now in
    let most = g.R.Rendezvous.limit c.args.how.now in
    done_or_memory c.a_patient_schedule_is_done.ensures c.the_verdict_is_the_first_that_holds.ensures.one
    c.an_outcome_in_time_is_done.ensures holds (g.F.Pieces.tells c.args.files.now) tell g.R.Rendezvous.lists silent most
    (PlayOf c.in-Ok.named.topology.now c.in-Ok.named.script.now)
    (subst (λ (line : Asked). CanBeDone most line holds) c.in-Ok.ensures can)
    (g.R.Rendezvous.runs c.args.how.now) (g.R.Rendezvous.runs c.play_live.new.how) timely g.S.Sink.stands
    c.args.out.now c.play_live.new.out _
    (g.F.Pieces.faults c.args.files.now, g.F.Pieces.faults c.play_live.new.files)
    (g.S.Sink.faults c.args.out.now, g.S.Sink.faults c.play_live.new.out)
    c.play_live.result c.play_live.ensures.written c.play_live.ensures.read_cause c.play_live.ensures.write_cause
    no_read no_write

pub returns-in-Err-clause-done : goal.returns-in-Err-clause-done
returns-in-Err-clause-done g c = λ silent tell can timely no_read no_write.
    absurd
    (subst (λ (line : Asked). CanBeDone (g.R.Rendezvous.limit c.args.how.now) line (g.F.Files.holds c.args.files.now))
    c.in-Err.ensures can)

pub returns-in-Ok-clause-resumes : goal.returns-in-Ok-clause-resumes
returns-in-Ok-clause-resumes g c = c.a_resume_brings_back.ensures.resume

pub returns-in-Ok-clause-cold : goal.returns-in-Ok-clause-cold
returns-in-Ok-clause-cold g c = c.a_resume_brings_back.ensures.cold

pub returns-in-Err-clause-resumes : goal.returns-in-Err-clause-resumes
returns-in-Err-clause-resumes g c = c.a_resume_brings_back.ensures.resume

pub returns-in-Err-clause-cold : goal.returns-in-Err-clause-cold
returns-in-Err-clause-cold g c = c.a_resume_brings_back.ensures.cold
