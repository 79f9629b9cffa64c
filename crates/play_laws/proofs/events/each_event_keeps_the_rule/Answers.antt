use Rattle.play_laws.proofs.EachEvent.{event_law}
use Rattle.play_laws.proofs.EachRun.{opening_lawful}
use Rattle.play_laws.proofs.events.each_event_keeps_the_rule.Goals as goal

pub returns : goal.returns
returns c = record { opening = opening_lawful; event = event_law }
