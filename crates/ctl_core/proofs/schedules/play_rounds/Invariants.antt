use Rattle.std.proofs.Common.{◌≡◌, Ok, map, []}
use Rattle.uc_io.specs.declared.sinks.SinkFailed.{SinkFailed}
use Rattle.rendezvous_steps.specs.declared.items.Event.TheVariants.{Step}
use Rattle.rendezvous_steps.specs.Plan.{threads_from}
use Rattle.rendezvous_rule.specs.Ran.{repeated}
use Rattle.ctl_core.specs.Cores.{plan_in, moment_in}
use Rattle.ctl_core.specs.Playing.{Plays}
use Rattle.ctl_core.proofs.schedules.play_rounds.Given as goal

-- the rounds so far
abbrev pub invariant-loop-round : goal.invariant-loop-round
invariant-loop-round g l = record {
  plays : Plays {E = SinkFailed} g.S.Sink.stands g.S.Sink.faults (plan_in l.initial.core) (record { moment = moment_in l.initial.core; sink = l.initial.out }) (record { moment = moment_in l.core; sink = l.out }) (repeated l._round (map Step (threads_from (plan_in l.initial.core) 0)) []) (Ok tt);
  plan : plan_in l.core ≡ plan_in l.initial.core;
}
