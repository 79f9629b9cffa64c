use Rattle.std.proofs.Common.{◌++◌}
use Rattle.amd_file.proofs.stream.AmdStream.feed.Goals as goal

pub returns-in-Some-clause-stands : goal.returns-in-Some-clause-stands
returns-in-Some-clause-stands c = λ bytes at.
    let stands = c.in-Ok.ensures.stands bytes at in
    (stands, c.in-Some.ensures (bytes ++ c.args.piece.now) stands.told stands.parsed)

pub returns-in-None-clause-stands : goal.returns-in-None-clause-stands
returns-in-None-clause-stands c = λ bytes at.
    let stands = c.in-Ok.ensures.stands bytes at in
    (stands, c.in-None.ensures (bytes ++ c.args.piece.now) stands.told stands.parsed)
