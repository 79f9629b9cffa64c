use Rattle.std.proofs.Common.{◌≡◌, Option, Some, ◌∙◌, ap, subst}
use Rattle.uc_bytes.specs.declared.causes.FileFault.{FileFault}
use Rattle.uc_bytes.specs.declared.causes.Vendor.{Vendor}
use Rattle.uc_bytes.specs.declared.causes.Vendor.TheVariants.{Intel, Amd}
use Rattle.entry_model.specs.Reading.{OfIntel, OfAmd}
use Rattle.file_rows.specs.FileReading.{ComesBy, ReadsBy}
use Rattle.file_rows.proofs.file_reader.FileReader.finish.Goals as goal

pub returns-in-Ok-clause-finished : goal.returns-in-Ok-clause-finished
returns-in-Ok-clause-finished c = λ bytes reads.
    let s = c.args.self in
    let vendor : s.vendor ≡ Some Intel = c.in-Some-vendor.is ∙ ap (λ (v : Vendor). Some v) c.in-Intel.is in
    let comes = subst (λ (f : Option FileFault). ReadsBy f bytes s) c.in_default.is reads in
    let came = subst (λ (v : Option Vendor). ComesBy v s.head.items bytes s.updates s.patches) vendor comes in
    let finished = c.in-Ok.ensures.finished bytes came.2 in
    (OfIntel finished.0, (came.1, finished.1), finished.2)

pub returns-in-Ok-finish-clause-finished : goal.returns-in-Ok-finish-clause-finished
returns-in-Ok-finish-clause-finished c = λ bytes reads.
    let s = c.args.self in
    let vendor : s.vendor ≡ Some Amd = c.in-Some-vendor.is ∙ ap (λ (v : Vendor). Some v) c.in-Amd.is in
    let comes = subst (λ (f : Option FileFault). ReadsBy f bytes s) c.in_default.is reads in
    let came = subst (λ (v : Option Vendor). ComesBy v s.head.items bytes s.updates s.patches) vendor comes in
    let finished = c.in-Ok-finish.ensures bytes came.1 in
    (OfAmd finished.0, (came.0, finished.1), finished.2)
