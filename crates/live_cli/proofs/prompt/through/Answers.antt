use Rattle.uc_io.specs.Host.{failed_writes_of, StandsFor}
use Rattle.live_cli.proofs.Through.{handed_through}
use Rattle.live_cli.proofs.prompt.through.Goals as goal

pub returns-in-Ok-clause-writes : goal.returns-in-Ok-clause-writes
returns-in-Ok-clause-writes g c =
    handed_through (StandsFor g.W.Write.contents) failed_writes_of _ _ _ c.args.piece.now tt c.finish.result c.in-Ok.ensures.writes c.finish.ensures.writes
