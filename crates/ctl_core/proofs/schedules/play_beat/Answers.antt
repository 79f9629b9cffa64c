use Rattle.std.proofs.Common.{[], ◌∷◌, sym, subst}
use Rattle.uc_io.specs.declared.sinks.SinkFailed.{SinkFailed}
use Rattle.rendezvous_steps.specs.declared.ends.Beat.{Beat}
use Rattle.rendezvous_rule.specs.Ran.{events_of}
use Rattle.ctl_core.specs.Cores.{plan_in, moment_in}
use Rattle.ctl_core.specs.Playing.{Plays}
use Rattle.ctl_core.proofs.schedules.play_beat.Goals as goal

pub returns-in-Rounds-clause-plays : goal.returns-in-Rounds-clause-plays
returns-in-Rounds-clause-plays g c =
    subst (λ (beat : Beat). Plays {E = SinkFailed} g.S.Sink.stands g.S.Sink.faults (plan_in c.args.core.now) (record { moment = moment_in c.args.core.now; sink = c.args.out.now }) (record { moment = moment_in c.play_rounds.new.core; sink = c.play_rounds.new.out }) (events_of (plan_in c.args.core.now) (beat ∷ [])) c.play_rounds.result)
    (sym c.in-Rounds.is) c.play_rounds.ensures.plays
