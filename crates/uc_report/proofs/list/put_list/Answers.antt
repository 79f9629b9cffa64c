use Rattle.std.proofs.Common.{◌≡◌, ℕ, ◌+◌, ◌-◌, ◌<◌, List, [], ◌∷◌, Ok, Err, length, get_or, map, take, drop, refl, sym, ap, ◌∙◌, subst, arith}
use Rattle.std.specs.Prelude.{sum_by}
use Rattle.std.specs.List.{flat_map, range_with_len}
use Rattle.std.proofs.lemmas.List.{get_or_default, get_or-map, length-map, take_more}
use Rattle.std.proofs.lemmas.List.Sums.{sum_by-append, sum_by-cons}
use Rattle.uc_bytes.specs.declared.causes.Vendor.TheVariants.{Intel}
use Rattle.uc_io.specs.Writing.{Writes}
use Rattle.uc_io.specs.declared.sinks.SinkFailed.{SinkFailed}
use Rattle.entry_model.specs.Reading.{Reading}
use Rattle.entry_model.specs.Entry.{entries_of}
use Rattle.report_text.specs.Listing.{file_text}
use Rattle.uc_catalog.specs.Contents.{FileSum, Contents, sum_of, kept, file_at, IsOfReadings}
use Rattle.uc_report.proofs.Counted.{Writes-number, Writes-number-cut}
use Rattle.uc_report.proofs.Files.{no_reading, start_of, text_at, many_of, stand_there, starts_at, files_by_number}
use Rattle.uc_report.proofs.list.put_list.Goals as goal

abbrev count_of : FileSum → ℕ
count_of file = file.entries

abbrev no_file : FileSum
no_file = record { vendor = Intel; entries = 0 }

-- the entries of one file more
next_begins : (files : List FileSum) (file : ℕ) (d : FileSum) → file < length files → sum_by count_of (take (file + 1) files) ≡ sum_by count_of (take file files) + count_of (get_or files file d)
next_begins files file d within =
    omega (arith, ap (λ (l : List FileSum). sum_by count_of l) (take_more files file d within), sum_by-append count_of (take file files) (get_or files file d ∷ []), sum_by-cons count_of (get_or files file d) [])

-- a file of readings: how many entries it has and where they begin
module _ (contents : Contents) (readings : List Reading) (of : IsOfReadings contents readings) (file first count : ℕ) (there : file < length contents.files) (begins : first ≡ sum_by count_of (take file contents.files)) (counts : count ≡ (file_at contents file).entries) where
  inside : file < length readings
  inside = omega (arith, there, ap (λ (l : List FileSum). length l) of.files, length-map readings sum_of)

  sum_here : file_at contents file ≡ sum_of (get_or readings file no_reading)
  sum_here = ap (λ (l : List FileSum). get_or l file no_file) of.files ∙ get_or-map sum_of readings file no_reading no_file inside

  starts : first ≡ start_of readings file
  starts = begins ∙ ap (λ (l : List FileSum). sum_by count_of (take file l)) of.files ∙ sym (starts_at readings file)

  counts_own : count ≡ length (entries_of file (get_or readings file no_reading))
  counts_own = counts ∙ ap count_of sum_here ∙ sym (many_of file (get_or readings file no_reading))

  own : (end : ℕ) → end ≡ first + count → take (end - first) (drop first contents.entries) ≡ map (kept contents.keeps) (entries_of file (get_or readings file no_reading))
  own end is = stand_there readings file inside contents.keeps contents.entries first (end - first) of.entries starts (omega (arith, is, counts_own))

  text_is : (date_text : ℕ → List ℕ) (names : List (List ℕ)) (name : List ℕ) → length names ≡ length contents.files → name ≡ get_or names file name → file_text date_text file first name (get_or readings file no_reading) ≡ text_at date_text names readings file
  text_is date_text names name same is =
      ap (λ (l : List ℕ). file_text date_text file first l (get_or readings file no_reading)) (is ∙ get_or_default names file name [] (omega (arith, there, same)))
      ∙ ap (λ (n : ℕ). file_text date_text file n (get_or names file []) (get_or readings file no_reading)) starts

-- as many names as readings
as_many : (contents : Contents) (readings : List Reading) (names : List (List ℕ)) → length names ≡ length contents.files → IsOfReadings contents readings → length names ≡ length readings
as_many contents readings names same of = same ∙ ap (λ (l : List FileSum). length l) of.files ∙ length-map readings sum_of

pub put_file_entries-requires-clause-within : goal.put_file_entries-requires-clause-within
put_file_entries-requires-clause-within g c = omega (arith, c.files.invariant.begins, c.entries_of.ensures.within)

pub returns-in_err-put_file_entries : goal.returns-in_err-put_file_entries
returns-in_err-put_file_entries g c = λ date_text readings dates of.
    let contents = c.args.catalog.now in
    let names = c.args.names.now in
    let file = c.files.file in
    let there : file < length contents.files = omega (arith, c.files-test.true, c.files-file-end.ensures) in
    let stand = own contents readings of file c.files.first c.entries_of.result there c.files.invariant.begins c.entries_of.ensures.count (c.files.first + c.entries_of.result) refl in
    let text = text_is contents readings of file c.files.first c.entries_of.result there c.files.invariant.begins c.entries_of.ensures.count date_text names c.index-names-file.result c.requires c.index-names-file.is in
    subst (λ (text : List ℕ). Writes g.S.Sink.stands g.S.Sink.faults c.args.out.now c.put_file_entries.new.out text c.from_residual.result) (sym (files_by_number date_text names readings (as_many contents readings names c.requires of)))
    (Writes-number-cut g.S.Sink.stands g.S.Sink.faults c.args.out.now c.files.out c.put_file_entries.new.out (text_at date_text names readings) 0 file file (omega arith) (length names) c.in_err-put_file_entries.field-0.0 c.from_residual.result (omega (arith, there, c.requires)) c.from_residual.ensures.0 (c.files.invariant.wrote date_text readings dates of)
    (subst (λ (l : List ℕ). Writes {E = SinkFailed} g.S.Sink.stands g.S.Sink.faults c.files.out c.put_file_entries.new.out l (Err c.in_err-put_file_entries.field-0.0)) text
    (c.in_err-put_file_entries.ensures date_text (get_or readings file no_reading) dates (sum_here contents readings of file c.files.first c.entries_of.result there c.files.invariant.begins c.entries_of.ensures.count) stand)))

pub files-preserved : goal.files-preserved
files-preserved g c =
    let contents = c.args.catalog.now in
    let names = c.args.names.now in
    let file = c.files.file in
    let there : file < length contents.files = omega (arith, c.files-test.true, c.files-file-end.ensures) in
    record {
      begins = omega (arith, c.files.invariant.begins, c.entries_of.ensures.count, next_begins contents.files file no_file there);
      wrote = λ date_text readings dates of.
          let stand = own contents readings of file c.files.first c.entries_of.result there c.files.invariant.begins c.entries_of.ensures.count (c.files.first + c.entries_of.result) refl in
          let text = text_is contents readings of file c.files.first c.entries_of.result there c.files.invariant.begins c.entries_of.ensures.count date_text names c.index-names-file.result c.requires c.index-names-file.is in
          Writes-number {E = SinkFailed} g.S.Sink.stands g.S.Sink.faults c.args.out.now c.files.out c.put_file_entries.new.out (text_at date_text names readings) 0 file file (omega arith) (file + 1) (omega arith) (c.files.invariant.wrote date_text readings dates of)
          (subst (λ (l : List ℕ). Writes {E = SinkFailed} g.S.Sink.stands g.S.Sink.faults c.files.out c.put_file_entries.new.out l (Ok tt)) text
          (c.in_ok-put_file_entries.ensures date_text (get_or readings file no_reading) dates (sum_here contents readings of file c.files.first c.entries_of.result there c.files.invariant.begins c.entries_of.ensures.count) stand));
    }

pub returns : goal.returns
returns g c = λ date_text readings dates of.
    let names = c.args.names.now in
    let whole : c.files.file ≡ length names = omega (arith, c.files-test.false, c.files.auto.file-end, c.files-file-end.ensures, c.requires) in
    subst (λ (text : List ℕ). Writes {E = SinkFailed} g.S.Sink.stands g.S.Sink.faults c.args.out.now c.files.out text (Ok tt)) (sym (files_by_number date_text names readings (as_many c.args.catalog.now readings names c.requires of)))
    (subst (λ (n : ℕ). Writes {E = SinkFailed} g.S.Sink.stands g.S.Sink.faults c.args.out.now c.files.out (flat_map (text_at date_text names readings) (range_with_len 0 n)) (Ok tt)) whole (c.files.invariant.wrote date_text readings dates of))
