use Rattle.std.proofs.Common.{◌≡◌, ℕ, ◌<◌, ◌≤◌, List, [], ◌∷◌, Some, Err, length, refl, sym, ◌∙◌, ap, subst, arith}
use Rattle.std.specs.Prelude.{slice_get}
use Rattle.std.proofs.lemmas.Option.{slice_get-get_or}
use Rattle.status_rule.specs.declared.status.Status.TheVariants.{Done}
use Rattle.status_rule.proofs.Endings.{Ends-written, ended_cause}
use Rattle.tool_text.specs.entry_model.Entry.{Entry, patch_entry}
use Rattle.tool_text.specs.read_model.Reads.{AllRead, NotRead, Refused}
use Rattle.uc_catalog.specs.Contents.{Contents, entry_at}
use Rattle.tool_text.specs.report_text.Lines.{no_entry_line}
use Rattle.tool_text.specs.report_text.Show.{show_text}
use Rattle.tool_text.specs.Commands.{ShowText, entries_of_all}
use Rattle.tool_text.specs.Tool.{FromReads}
use Rattle.tool_laws.proofs.SomeText.{date_text_of, are_date_texts, show_text_of, whether_told}
use Rattle.update_reads.specs.Reading.{IsOfFiles}
use Rattle.update_reads.proofs.Files.{all_entries}
use Rattle.uc_cli.specs.Reading.{AreUpdatesRead}
use Rattle.uc_cli.proofs.Endings.{done_written, bad_written, files_refused}
use Rattle.uc_cli.proofs.show.show.Goals as goal

pub returns-then-number-from-clause-written : goal.returns-then-number-from-clause-written
returns-then-number-from-clause-written g c =
    let name = c.args.name.now in
    let tells = g.F.Pieces.tells c.args.files.now in
    let holds = g.F.Files.holds c.args.files.now in
    let of = subst (λ (names : List (List ℕ)). IsOfFiles tells names holds c.in-Ok.catalog) c.from_ref.ensures.value c.in-Ok.ensures.answer.1 in
    let inside : c.args.number < length c.in-Ok.catalog.entries = omega (arith, c.if-number-from.true, c.from.ensures, c.len.ensures.count) in
    let there : slice_get (entries_of_all of.readings) c.args.number ≡ Some (entry_at c.in-Ok.catalog c.args.number) =
    ap (λ (l : List Entry). slice_get l c.args.number) (sym (all_entries tells (name ∷ []) holds c.in-Ok.catalog of (c.in-Ok.ensures.keeps ∙ ap (λ (v : Contents). v.keeps) c.new.ensures))) ∙ slice_get-get_or c.in-Ok.catalog.entries c.args.number (patch_entry 0 0 [] []) inside in
    done_written g.S.Sink.stands g.S.Sink.faults _ _ (FromReads tells holds (ShowText name c.args.number)) _ (show_text date_text_of c.args.number (entry_at c.in-Ok.catalog c.args.number)) _
    (record {
      reads = of.reads;
      held = of.held;
      is_text = record {
        outcome = AllRead of.readings;
        come = (of.in_order, of.accepted);
        count = refl;
        shown = record { entry = entry_at c.in-Ok.catalog c.args.number; there = there; date_text = date_text_of; are_dates = are_date_texts; lines = refl };
      };
    })
    (Ends-written g.S.Sink.stands g.S.Sink.faults _ _ _ Done _ _ (c.put_show.ensures date_text_of are_date_texts) c.after_write.ensures)

pub returns-then-number-from-clause-write_cause : goal.returns-then-number-from-clause-write_cause
returns-then-number-from-clause-write_cause g c =
    ended_cause g.S.Sink.stands g.S.Sink.faults _ _ _ Done _ (λ e. cc) (Ends-written g.S.Sink.stands g.S.Sink.faults _ _ _ Done _ _ (c.put_show.ensures date_text_of are_date_texts) c.after_write.ensures)

pub returns-in-Ok-clause-written : goal.returns-in-Ok-clause-written
returns-in-Ok-clause-written g c =
    let name = c.args.name.now in
    let tells = g.F.Pieces.tells c.args.files.now in
    let holds = g.F.Files.holds c.args.files.now in
    let of = subst (λ (names : List (List ℕ)). IsOfFiles tells names holds c.in-Ok.catalog) c.from_ref.ensures.value c.in-Ok.ensures.answer.1 in
    let past : length (entries_of_all of.readings) ≤ c.args.number =
    omega (arith, c.if-number-from.false, c.from.ensures, c.len.ensures.count, ap (λ (l : List Entry). length l) (all_entries tells (name ∷ []) holds c.in-Ok.catalog of (c.in-Ok.ensures.keeps ∙ ap (λ (v : Contents). v.keeps) c.new.ensures))) in
    bad_written g.S.Sink.stands g.S.Sink.faults _ _ (FromReads tells holds (ShowText name c.args.number)) _ (no_entry_line c.args.number) _
    (record {
      reads = of.reads;
      held = of.held;
      is_text = record { outcome = AllRead of.readings; come = (of.in_order, of.accepted); count = refl; shown = (past, refl) };
    })
    c.refuse.ensures.ends

pub returns-clause-written : goal.returns-clause-written
returns-clause-written g c =
    let name = c.args.name.now in
    let tells = g.F.Pieces.tells c.args.files.now in
    let holds = g.F.Files.holds c.args.files.now in
    files_refused g.S.Sink.stands g.S.Sink.faults _ _ (FromReads tells holds (ShowText name c.args.number)) tells (name ∷ []) holds _ _ c.in-Err.refusal _
    (whether_told holds (ShowText name c.args.number) (show_text_of name c.args.number holds))
    (λ which of. (length of.reads, record { reads = of.reads; held = of.held; is_text = record { outcome = NotRead which; come = of.come; count = refl; shown = refl } }))
    (λ which offset cause of. record { reads = of.reads; held = of.held; is_text = record { outcome = Refused which offset cause; come = of.come; count = refl; shown = refl } })
    (subst (λ (names : List (List ℕ)). AreUpdatesRead tells names holds (g.F.Pieces.faults c.args.files.now) (g.F.Pieces.faults c.read_updates.new.files) (Err c.in-Err.refusal)) c.from_ref.ensures.value c.in-Err.ensures.answer)
    c.refuse-in-Err.ensures.ends
