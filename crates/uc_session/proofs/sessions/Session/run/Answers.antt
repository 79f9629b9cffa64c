use Rattle.std.proofs.Common.{sym, subst}
use Rattle.session_steps.specs.State.{Setting}
use Rattle.session_steps.specs.Calls.{HeldWhere}
use Rattle.session_laws.specs.Standing.{Standing}
use Rattle.session_laws.proofs.Sessions.{played_stands}
use Rattle.session_parts.specs.Parts.{setting_of, state_of}
use Rattle.uc_session.proofs.sessions.Session.run.Goals as goal

-- what each call leaves stands
pub invariant_of-self : goal.invariant_of-self
invariant_of-self g c = record {
  standing =
      subst (λ (setting : Setting). Standing setting (state_of c.play.new.parts)) (sym c.play.ensures.setting)
      (played_stands
      (record { stands = g.S.Sink.stands; faults = g.S.Sink.faults; lists = g.R.Rendezvous.lists; held = HeldWhere (g.F.Pieces.tells c.args.files.now) (g.F.Files.holds c.args.files.now) })
      (setting_of c.args.self.now.parts) c.args.number c.args.command.now
      (record { state = state_of c.args.self.now.parts; files = g.F.Pieces.faults c.args.files.now; runs = g.R.Rendezvous.runs c.args.how.now; sink = c.args.out.now })
      (record { state = state_of c.play.new.parts; files = g.F.Pieces.faults c.play.new.files; runs = g.R.Rendezvous.runs c.play.new.how; sink = c.play.new.out })
      c.play.result c.topology-topology.ensures.partition c.args.self.now.standing c.requires.range
      c.play.ensures.played);
}
