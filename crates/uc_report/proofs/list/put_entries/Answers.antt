use Rattle.std.proofs.Common.{◌≡◌, ℕ, ◌+◌, ◌-◌, List, Ok, sym, subst, arith}
use Rattle.std.specs.List.{flat_map, range_with_len}
use Rattle.uc_io.specs.Writing.{Writes}
use Rattle.uc_io.specs.declared.sinks.SinkFailed.{SinkFailed}
use Rattle.report_text.specs.Listing.{entry_text}
use Rattle.uc_catalog.specs.Contents.{Contents, entry_at}
use Rattle.uc_report.proofs.Counted.{Writes-number, Writes-number-cut}
use Rattle.uc_report.proofs.Files.{entries_by_number}
use Rattle.uc_report.proofs.list.put_entries.Goals as goal

-- the lines of an entry, by its number
abbrev lines_at : (ℕ → List ℕ) → Contents → ℕ → List ℕ
lines_at date_text contents i = entry_text date_text i (entry_at contents i)

pub returns-in_err-put_entry : goal.returns-in_err-put_entry
returns-in_err-put_entry g c = λ date_text are.
    let contents = c.args.catalog.now in
    let first = c.args.first in
    let count = c.args.end - first in
    subst (λ (text : List ℕ). Writes g.S.Sink.stands g.S.Sink.faults c.args.out.now c.put_entry.new.out text c.from_residual.result) (sym (entries_by_number date_text contents.entries _ first count (omega (arith, c.requires.order, c.requires.within))))
    (Writes-number-cut g.S.Sink.stands g.S.Sink.faults c.args.out.now c.entries.out c.put_entry.new.out (lines_at date_text contents) first (c.entries.i - first) c.entries.i (omega (arith, c.entries.auto.i)) count c.in_err-put_entry.field-0.0 c.from_residual.result (omega (arith, c.entries-test.true, c.entries.auto.i)) c.from_residual.ensures.0 (c.entries.invariant.wrote date_text are)
    (c.in_err-put_entry.ensures date_text are))

pub entries-preserved : goal.entries-preserved
entries-preserved g c = record {
  wrote = λ date_text are.
      let first = c.args.first in
      Writes-number {E = SinkFailed} g.S.Sink.stands g.S.Sink.faults c.args.out.now c.entries.out c.put_entry.new.out (lines_at date_text c.args.catalog.now) first (c.entries.i - first) c.entries.i (omega (arith, c.entries.auto.i)) (c.entries.i + 1 - first) (omega (arith, c.entries.auto.i)) (c.entries.invariant.wrote date_text are)
      (c.in_ok-put_entry.ensures date_text are);
}

pub returns : goal.returns
returns g c = λ date_text are.
    let contents = c.args.catalog.now in
    let first = c.args.first in
    let all : c.entries.i - first ≡ c.args.end - first = omega (arith, c.entries-test.false, c.entries.auto.i-end c.requires.order) in
    subst (λ (text : List ℕ). Writes {E = SinkFailed} g.S.Sink.stands g.S.Sink.faults c.args.out.now c.entries.out text (Ok tt)) (sym (entries_by_number date_text contents.entries _ first (c.args.end - first) (omega (arith, c.requires.order, c.requires.within))))
    (subst (λ (n : ℕ). Writes {E = SinkFailed} g.S.Sink.stands g.S.Sink.faults c.args.out.now c.entries.out (flat_map (lines_at date_text contents) (range_with_len first n)) (Ok tt)) all (c.entries.invariant.wrote date_text are))
