use Rattle.std.proofs.Common.{◌++◌, ◌∙◌}
use Rattle.file_rows.proofs.patch_reader.PatchReader.feed.Goals as goal

pub returns-in-Some-clause-reads : goal.returns-in-Some-clause-reads
returns-in-Some-clause-reads c = λ bytes reads.
    let gathers = c.in-Ok.ensures.gathers bytes reads.0 in
    c.in-Some.ensures (bytes ++ c.args.piece.now) gathers.told gathers.stands

pub returns-in-None-clause-reads : goal.returns-in-None-clause-reads
returns-in-None-clause-reads c = λ bytes reads.
    let gathers = c.in-Ok.ensures.gathers bytes reads.0 in (
      (record { told = gathers.told; stands = gathers.stands; sum = c.settle.ensures.sum ∙ gathers.sum }, c.settle.ensures.settled),
      c.in-None.ensures (bytes ++ c.args.piece.now) gathers.told gathers.stands,
    )
