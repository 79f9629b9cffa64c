use Rattle.std.proofs.Common.{Option, Err, subst}
use Rattle.uc_bytes.specs.declared.causes.FileFault.{FileFault}
use Rattle.uc_bytes.specs.declared.causes.FileAnswer.{FileAnswer}
use Rattle.file_rows.proofs.FileReads.{settled_stays}
use Rattle.uc_catalog.specs.Contents.{IsFed}
use Rattle.update_reads.specs.Fed.{HasCome}
use Rattle.update_reads.proofs.pieces.feed_piece.Goals as goal

pub returns-in-Some-clause-come : goal.returns-in-Some-clause-come
returns-in-Some-clause-come c = λ bytes come.
    let settled = c.in-Some.settled in
    settled_stays bytes c.args.piece.now settled.offset settled.cause (subst (λ (f : Option FileFault). HasCome bytes f c.args.catalog.now) c.in-Some.is come)

pub returns-in-Ok-clause-come : goal.returns-in-Ok-clause-come
returns-in-Ok-clause-come c = λ bytes come.
    (c.in-Ok.ensures.come bytes (subst (λ (f : Option FileFault). HasCome bytes f c.args.catalog.now) c.in_default.is come)).0

pub returns-in-Err-Fault-clause-come : goal.returns-in-Err-Fault-clause-come
returns-in-Err-Fault-clause-come c = λ bytes come.
    let fed = c.in-Err-Fault.ensures.come bytes (subst (λ (f : Option FileFault). HasCome bytes f c.args.catalog.now) c.in_default.is come) in
    (subst (λ (answer : FileAnswer). IsFed bytes c.args.piece.now c.feed.new.self (Err answer)) c.in-Err-Fault.field-0-is fed).1
