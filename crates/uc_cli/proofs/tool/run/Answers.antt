use Rattle.uc_cli.proofs.Generating.{generated_written, never_unread}
use Rattle.uc_cli.proofs.tool.run.Goals as goal

pub returns-in-List-clause-written : goal.returns-in-List-clause-written
returns-in-List-clause-written g c = rw c.in-List.is c.list.ensures.written

pub returns-in-Show-clause-written : goal.returns-in-Show-clause-written
returns-in-Show-clause-written g c = rw c.in-Show.is c.show.ensures.written

pub returns-in-Select-clause-written : goal.returns-in-Select-clause-written
returns-in-Select-clause-written g c = rw c.in-Select.is c.select.ensures.written

pub returns-in-Play-clause-written : goal.returns-in-Play-clause-written
returns-in-Play-clause-written g c = rw c.in-Play.is c.play.ensures.written

pub returns-in-Gen-clause-written : goal.returns-in-Gen-clause-written
returns-in-Gen-clause-written g c =
    rw c.in-Gen.is (generated_written c.in-Gen.number g.S.Sink.stands _ _ (g.F.Pieces.tells c.args.files.now) (g.F.Files.holds c.args.files.now) _ c.generate.result c.generate.ensures.written)

pub returns-in-Gen-clause-read_cause : goal.returns-in-Gen-clause-read_cause
returns-in-Gen-clause-read_cause g c =
    never_unread c.in-Gen.number g.S.Sink.stands _ _ _ c.generate.result c.generate.ensures.written
