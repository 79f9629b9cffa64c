use Rattle.std.proofs.Common.{◌≡◌, Ok, map}
use Rattle.std.specs.List.{range_with_len}
use Rattle.uc_io.specs.declared.sinks.SinkFailed.{SinkFailed}
use Rattle.rendezvous_steps.specs.declared.items.Event.TheVariants.{Step}
use Rattle.ctl_core.specs.Cores.{plan_in, moment_in}
use Rattle.ctl_core.specs.Playing.{Plays}
use Rattle.ctl_core.proofs.schedules.play_round.Given as goal

-- the steps of the threads so far
abbrev pub invariant-loop-thread : goal.invariant-loop-thread
invariant-loop-thread g l = record {
  plays : Plays {E = SinkFailed} g.S.Sink.stands g.S.Sink.faults (plan_in l.initial.core) (record { moment = moment_in l.initial.core; sink = l.initial.out }) (record { moment = moment_in l.core; sink = l.out }) (map Step (range_with_len 0 l.thread)) (Ok tt);
  plan : plan_in l.core ≡ plan_in l.initial.core;
}
