use Rattle.std.proofs.Common.{◌≡◌, Option, Some, ◌∙◌, ap, subst}
use Rattle.uc_bytes.specs.declared.causes.Vendor.{Vendor}
use Rattle.uc_bytes.specs.declared.causes.Vendor.TheVariants.{Intel, Amd}
use Rattle.file_rows.specs.FileReading.{ComesBy}
use Rattle.file_rows.specs.declared.file_reader.FileReader.{FileReader}
use Rattle.file_rows.proofs.FileReads.{updates_come, patches_come}
use Rattle.file_rows.proofs.file_reader.FileReader.take_piece.Goals as goal

pub returns-in-Intel-clause-come : goal.returns-in-Intel-clause-come
returns-in-Intel-clause-come c = λ bytes comes.
    let s = c.args.self.now in
    let vendor : s.vendor ≡ Some Intel = c.in-Some.is ∙ ap (λ (v : Vendor). Some v) c.in-Intel.is in
    let came = subst (λ (v : Option Vendor). ComesBy v s.head.items bytes s.updates s.patches) vendor comes in
    let after : FileReader = record s { updates = c.feed.new.self } in
    updates_come c.feed.result bytes c.args.piece.now after vendor came.0 came.1 (c.feed.ensures.reads bytes came.2)

pub returns-in-Amd-clause-come : goal.returns-in-Amd-clause-come
returns-in-Amd-clause-come c = λ bytes comes.
    let s = c.args.self.now in
    let vendor : s.vendor ≡ Some Amd = c.in-Some.is ∙ ap (λ (v : Vendor). Some v) c.in-Amd.is in
    let came = subst (λ (v : Option Vendor). ComesBy v s.head.items bytes s.updates s.patches) vendor comes in
    let after : FileReader = record s { patches = c.feed-in-Amd.new.self } in
    patches_come c.feed-in-Amd.result bytes c.args.piece.now after vendor came.0 (c.feed-in-Amd.ensures.reads bytes came.1)
