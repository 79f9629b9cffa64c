use Rattle.ctl_words.specs.Plans.{plan_of}
use Rattle.uc_rendezvous.specs.Outcomes.{came_to}
use Rattle.uc_live.proofs.Held.{held_is_run}
use Rattle.uc_live.proofs.runs.LiveRunOpenGateRendezvous.run.Goals as goal

pub returns-clause-answer : goal.returns-clause-answer
returns-clause-answer g c =
    held_is_run g.S.Sink.stands g.S.Sink.faults (plan_of c.args.plan.now) c.args._beats.now _ _ c.args._out.now (came_to c.hold.new.outcome c.hold.result) c.hold.ensures
