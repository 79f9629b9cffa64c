use Rattle.std.proofs.Common.{◌++◌, Option, sym, subst}
use Rattle.uc_bytes.specs.declared.causes.FileFault.{FileFault}
use Rattle.file_rows.specs.FileReading.{IsSettled, ReadsBy}
use Rattle.file_rows.proofs.FileReads.{settled_stays}
use Rattle.file_rows.proofs.file_reader.FileReader.feed.Goals as goal

pub returns-in-Some-clause-reads : goal.returns-in-Some-clause-reads
returns-in-Some-clause-reads c = λ bytes reads.
    let s = c.args.self.now in
    let piece = c.args.piece.now in
    let fault = c.in-Some.fault in
    let here : IsSettled bytes fault.offset fault.cause = subst (λ (f : Option FileFault). ReadsBy f bytes s) c.in-Some.is reads in
    let later : IsSettled (bytes ++ piece) fault.offset fault.cause = settled_stays bytes piece fault.offset fault.cause here in
    (subst (λ (f : Option FileFault). ReadsBy f (bytes ++ piece) s) (sym c.in-Some.is) later, later)
