use Rattle.std.proofs.Common.{Ok, ◌++◌, drop, subst, append_assoc}
use Rattle.std.specs.List.{flat_map}
use Rattle.uc_io.specs.Writing.{Writes}
use Rattle.entry_model.specs.declared.facts.EntryFacts.{EntryFacts}
use Rattle.entry_model.specs.Entry.{served}
use Rattle.report_text.specs.Lines.{pair_line, sig_line}
use Rattle.report_text.specs.Listing.{entry_line}
use Rattle.uc_catalog.specs.Contents.{entry_at}
use Rattle.uc_io.proofs.Writes.{Writes-then, Writes-more}
use Rattle.uc_report.proofs.list.put_entry.Goals as goal

-- lines that were not written: what was written is a front of them all
pub returns-in_err-put_entry_line : goal.returns-in_err-put_entry_line
returns-in_err-put_entry_line g c = λ date_text are.
    rw (← c.entry-facts.ensures, append_assoc) (Writes-more g.S.Sink.stands g.S.Sink.faults _ _ _ _ _ _ c.from_residual.ensures.0 (c.in_err-put_entry_line.ensures date_text are))

pub returns-in_err-put_pairs : goal.returns-in_err-put_pairs
returns-in_err-put_pairs g c = λ date_text are.
    rw (← c.entry-facts.ensures, append_assoc)
    (Writes-then g.S.Sink.stands g.S.Sink.faults _ _ _ _ _ _ (c.in_ok-put_entry_line.ensures date_text are)
    (Writes-more g.S.Sink.stands g.S.Sink.faults _ _ _ _ _ _ c.from_residual-in_err-put_pairs.ensures.0 c.in_err-put_pairs.ensures))

pub returns : goal.returns
returns g c = λ date_text are.
    let entry = entry_at c.args.catalog.now c.args.i in
    subst (λ (facts : EntryFacts). Writes g.S.Sink.stands g.S.Sink.faults c.args.out.now c.put_sigs_by_id.new.out (entry_line date_text c.args.i facts ++ flat_map pair_line (drop 1 entry.pairs) ++ flat_map sig_line (served entry)) c.put_sigs_by_id.result) c.entry-facts.ensures
    (Writes-then g.S.Sink.stands g.S.Sink.faults _ _ _ _ _ _ (Writes-then g.S.Sink.stands g.S.Sink.faults _ _ _ _ _ (Ok tt) (c.in_ok-put_entry_line.ensures date_text are) c.in_ok-put_pairs.ensures) c.put_sigs_by_id.ensures)
