use Rattle.std.proofs.Common.{◌≡◌, ℕ, ◌-◌, ◌≤◌, Bool, List, ◌++◌, length, map, take, drop, sym, ap, subst, arith, ◌∙◌, length-take-le, length-drop}
use Rattle.std.proofs.lemmas.List.{length-map}
use Rattle.uc_bytes.specs.declared.causes.Vendor.{Vendor}
use Rattle.uc_io.specs.Writing.{Writes}
use Rattle.uc_io.proofs.Writes.{Writes-then, Writes-more}
use Rattle.entry_model.specs.Entry.{Entry, entries_of}
use Rattle.entry_model.specs.Reading.{Reading}
use Rattle.report_text.specs.Lines.{file_line}
use Rattle.report_text.specs.Listing.{entries_text, file_text, vendor_of}
use Rattle.uc_catalog.specs.Contents.{FileSum, sum_of, kept}
use Rattle.uc_report.proofs.Files.{vendor_is, kept_text}
use Rattle.uc_report.proofs.list.put_file_entries.Goals as goal

-- the lines of a file whose entries stand in a row
file_is : (keeps : Bool) (date_text : ℕ → List ℕ) (file first count : ℕ) (name : List ℕ) (reading : Reading) (vendor : Vendor) (entries : List Entry) → vendor_of reading ≡ vendor → count ≤ length (drop first entries) → take count (drop first entries) ≡ map (kept keeps) (entries_of file reading)
    → file_line file name vendor count ++ entries_text date_text first (take count (drop first entries)) ≡ file_text date_text file first name reading
file_is keeps date_text file first count name reading vendor entries of within stand =
    let many : count ≡ length (entries_of file reading) = sym (length-take-le count (drop first entries) within) ∙ ap (λ (l : List Entry). length l) stand ∙ length-map (entries_of file reading) (kept keeps) in
    ap (λ (v : Vendor). file_line file name v count ++ entries_text date_text first (take count (drop first entries))) (sym of)
    ∙ ap (λ (n : ℕ). file_line file name (vendor_of reading) n ++ entries_text date_text first (take count (drop first entries))) many
    ∙ ap (λ (l : List ℕ). file_line file name (vendor_of reading) (length (entries_of file reading)) ++ l) (ap (λ (l : List Entry). entries_text date_text first l) stand ∙ kept_text keeps date_text first (entries_of file reading))

-- its vendor is that of the reading
vendor_here : (reading : Reading) (sum : FileSum) (vendor : Vendor) → sum ≡ sum_of reading → vendor ≡ sum.vendor → vendor_of reading ≡ vendor
vendor_here reading sum vendor is of = vendor_is reading ∙ ap (λ (s : FileSum). s.vendor) (sym is) ∙ sym of

pub returns-in_err-put_file : goal.returns-in_err-put_file
returns-in_err-put_file g c = λ date_text reading are is stand.
    let entries = c.args.catalog.now.entries in
    let count = c.args.end - c.args.first in
    subst (λ (text : List ℕ). Writes g.S.Sink.stands g.S.Sink.faults c.args.out.now c.put_file.new.out text c.from_residual.result)
    (file_is c.args.catalog.now.keeps date_text c.args.file c.args.first count c.args.name.now reading c.vendor_of.result entries (vendor_here reading _ c.vendor_of.result is c.vendor_of.ensures) (omega (arith, c.requires.order, c.requires.within, length-drop c.args.first entries)) stand)
    (Writes-more g.S.Sink.stands g.S.Sink.faults _ _ _ (entries_text date_text c.args.first (take count (drop c.args.first entries))) _ _ c.from_residual.ensures.0 c.in_err-put_file.ensures)

pub returns : goal.returns
returns g c = λ date_text reading are is stand.
    subst (λ (text : List ℕ). Writes g.S.Sink.stands g.S.Sink.faults c.args.out.now c.put_entries.new.out text c.put_entries.result)
    (file_is c.args.catalog.now.keeps date_text c.args.file c.args.first (c.args.end - c.args.first) c.args.name.now reading c.vendor_of.result c.args.catalog.now.entries (vendor_here reading _ c.vendor_of.result is c.vendor_of.ensures) (omega (arith, c.requires.order, c.requires.within, length-drop c.args.first c.args.catalog.now.entries)) stand)
    (Writes-then g.S.Sink.stands g.S.Sink.faults _ _ _ _ _ _ c.in_ok-put_file.ensures (c.put_entries.ensures date_text are))
