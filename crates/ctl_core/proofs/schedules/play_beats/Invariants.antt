use Rattle.std.proofs.Common.{◌≡◌, Ok, take}
use Rattle.uc_io.specs.declared.sinks.SinkFailed.{SinkFailed}
use Rattle.rendezvous_rule.specs.Ran.{events_of}
use Rattle.ctl_core.specs.Cores.{plan_in, moment_in}
use Rattle.ctl_core.specs.Playing.{Plays}
use Rattle.ctl_core.proofs.schedules.play_beats.Given as goal

-- the beats so far
abbrev pub invariant-loop-beat : goal.invariant-loop-beat
invariant-loop-beat g l = record {
  plays : Plays {E = SinkFailed} g.S.Sink.stands g.S.Sink.faults (plan_in l.initial.core) (record { moment = moment_in l.initial.core; sink = l.initial.out }) (record { moment = moment_in l.core; sink = l.out }) (events_of (plan_in l.initial.core) (take l.beat-index l.beats)) (Ok tt);
  plan : plan_in l.core ≡ plan_in l.initial.core;
}
