use Rattle.std.proofs.Common.{None, Err, ◌∙◌, ap, subst}
use Rattle.uc_bytes.specs.declared.causes.FileAnswer.{FileAnswer}
use Rattle.uc_catalog.specs.Contents.{Contents, with_coming, IsEnded}
use Rattle.update_reads.proofs.pieces.end_update.Goals as goal

pub returns-in-Ok : goal.returns-in-Ok
returns-in-Ok c = λ bytes comes. c.in-Ok.ensures.ended bytes comes

pub returns-in-Err-Fault : goal.returns-in-Err-Fault
returns-in-Err-Fault c = λ bytes comes.
    subst (λ (answer : FileAnswer). IsEnded c.args.catalog.now c.end_file.new.self bytes (Err answer)) c.in-Err-Fault.field-0-is (c.in-Err-Fault.ensures.ended bytes comes)

pub returns-in-Err-NoMemory : goal.returns-in-Err-NoMemory
returns-in-Err-NoMemory c = λ bytes comes.
    let same = subst (λ (answer : FileAnswer). IsEnded c.args.catalog.now c.end_file.new.self bytes (Err answer)) c.in-Err-NoMemory.field-0-is (c.in-Err-NoMemory.ensures.ended bytes comes) in
    c.drop_file.ensures ∙ ap (λ (v : Contents). with_coming None v) same
