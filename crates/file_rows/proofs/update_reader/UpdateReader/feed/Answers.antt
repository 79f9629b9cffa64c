use Rattle.std.proofs.Common.{◌++◌, Option, subst, arith, length-append}
use Rattle.uc_bytes.specs.declared.causes.FileFault.{FileFault}
use Rattle.intel_file.proofs.Standing.{none_settled}
use Rattle.file_rows.specs.UpdateWalk.{Lists, IsKept}
use Rattle.file_rows.proofs.update_reader.UpdateReader.feed.Goals as goal

pub returns-in-None-clause-reads : goal.returns-in-None-clause-reads
returns-in-None-clause-reads c = λ bytes reads.
    let piece = c.args.piece.now in
    let walk = c.walk_piece.new.walk in
    let came = c.in-Ok.ensures.walked bytes reads.0 (omega (arith, c.requires, reads.1)) in
    let lists : Lists walk c.walk_piece.new.rows (bytes ++ piece) = subst (λ (found : Option FileFault). IsKept (bytes ++ piece) walk c.walk_piece.new.rows found) c.in-None.is came in (
      (lists, omega (arith, reads.1, length-append bytes piece)),
      none_settled walk (bytes ++ piece) lists.updates lists.coming lists.stands,
    )
