use Rattle.std.proofs.Common.{◌≡◌, ℕ, List, Ok, take}
use Rattle.std.specs.Prelude.{sum_by}
use Rattle.std.specs.List.{flat_map, range_with_len}
use Rattle.uc_io.specs.Writing.{Writes}
use Rattle.uc_io.specs.declared.sinks.SinkFailed.{SinkFailed}
use Rattle.entry_model.specs.Reading.{Reading}
use Rattle.report_text.specs.Listing.{AreDateTexts}
use Rattle.uc_catalog.specs.Contents.{IsOfReadings}
use Rattle.uc_report.proofs.Files.{text_at}
use Rattle.uc_report.proofs.list.put_list.Given as goal

abbrev pub invariant-files : goal.invariant-files
invariant-files g l = record {
  begins : l.first ≡ sum_by (λ file. file.entries) (take l.file l.catalog.files);
  wrote : (date_text : ℕ → List ℕ) (readings : List Reading) → AreDateTexts date_text → IsOfReadings l.catalog readings
      → Writes {E = SinkFailed} g.S.Sink.stands g.S.Sink.faults l.fn.out l.out (flat_map (text_at date_text l.names readings) (range_with_len 0 l.file)) (Ok tt);
}
