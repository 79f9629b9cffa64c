use Rattle.std.proofs.Common.{length, refl, sym}
use Rattle.status_rule.specs.declared.status.Status.TheVariants.{Done}
use Rattle.status_rule.proofs.Endings.{Ends-written, ended_cause}
use Rattle.tool_text.specs.read_model.Reads.{AllRead, NotRead, Refused}
use Rattle.tool_text.specs.report_text.Listing.{files_text}
use Rattle.tool_text.specs.Commands.{ListText}
use Rattle.tool_text.specs.Tool.{FromReads}
use Rattle.tool_laws.proofs.SomeText.{date_text_of, are_date_texts, list_text, whether_told}
use Rattle.uc_cli.proofs.Endings.{done_written, files_refused}
use Rattle.update_reads.proofs.Files.{files_count}
use Rattle.uc_cli.proofs.list.list.Goals as goal

pub put_list-requires : goal.put_list-requires
put_list-requires g c =
    sym (files_count (g.F.Pieces.tells c.args.files.now) c.args.names.now (g.F.Files.holds c.args.files.now) c.in-Ok.catalog c.in-Ok.ensures.answer.1)

pub returns-in-Ok-clause-written : goal.returns-in-Ok-clause-written
returns-in-Ok-clause-written g c =
    let tells = g.F.Pieces.tells c.args.files.now in
    let holds = g.F.Files.holds c.args.files.now in
    let names = c.args.names.now in
    let of = c.in-Ok.ensures.answer.1 in
    let wrote = c.put_list.ensures date_text_of of.readings are_date_texts of.of in
    done_written g.S.Sink.stands g.S.Sink.faults _ _ (FromReads tells holds (ListText names)) _ (files_text date_text_of 0 0 names of.readings) _
    (record {
      reads = of.reads;
      held = of.held;
      is_text = record {
        outcome = AllRead of.readings;
        come = (of.in_order, of.accepted);
        count = refl;
        listed = record { date_text = date_text_of; are_dates = are_date_texts; lines = refl };
      };
    })
    (Ends-written g.S.Sink.stands g.S.Sink.faults _ _ _ Done _ _ wrote c.after_write.ensures)

pub returns-in-Ok-clause-write_cause : goal.returns-in-Ok-clause-write_cause
returns-in-Ok-clause-write_cause g c =
    let of = c.in-Ok.ensures.answer.1 in
    let wrote = c.put_list.ensures date_text_of of.readings are_date_texts of.of in
    ended_cause g.S.Sink.stands g.S.Sink.faults _ _ _ Done _ (λ e. cc) (Ends-written g.S.Sink.stands g.S.Sink.faults _ _ _ Done _ _ wrote c.after_write.ensures)

pub returns-in-Err-clause-written : goal.returns-in-Err-clause-written
returns-in-Err-clause-written g c =
    let tells = g.F.Pieces.tells c.args.files.now in
    let holds = g.F.Files.holds c.args.files.now in
    let names = c.args.names.now in
    files_refused g.S.Sink.stands g.S.Sink.faults _ _ (FromReads tells holds (ListText names)) tells names holds _ _ c.in-Err.refusal _ (whether_told holds (ListText names) (list_text names holds))
    (λ name of. (length of.reads, record { reads = of.reads; held = of.held; is_text = record { outcome = NotRead name; come = of.come; count = refl; listed = refl } }))
    (λ name offset cause of. record { reads = of.reads; held = of.held; is_text = record { outcome = Refused name offset cause; come = of.come; count = refl; listed = refl } })
    c.in-Err.ensures.answer
    c.refuse.ensures.ends
