use Rattle.std.proofs.Common.{◌≡◌}
use Rattle.ctl_words.specs.Plans.{plan_of}
use Rattle.ctl_words.proofs.TablesEnd.{padded}
use Rattle.uc_rendezvous.specs.Outcomes.{came_to}
use Rattle.ctl_core.proofs.Listing.{schedule_is_run, on_came}
use Rattle.ctl_core.proofs.schedules.ScheduledRendezvous.run.Goals as goal

pub returns-clause-answer : goal.returns-clause-answer
returns-clause-answer g c =
    schedule_is_run g.S.Sink.stands g.S.Sink.faults (plan_of c.args.plan.now) c.args.beats.now _ _ c.args.out.now c.play.new.out (came_to c.play.new.outcome c.play.result) c.requires.sound.sound (padded c.args.plan.now c.requires.sound) c.play.ensures.later (on_came (g.S.Sink.faults c.play.new.out ≡ g.S.Sink.faults c.args.out.now) _ c.play.result c.play.ensures.still) c.play.ensures.played
