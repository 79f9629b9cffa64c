use Rattle.std.proofs.Common.{refl}
use Rattle.session_steps.specs.script_text.declared.command.Command.TheVariants.{Boot}
use Rattle.session_steps.specs.Calls.{HeldWhere}
use Rattle.session_parts.specs.Parts.{setting_of, state_of}
use Rattle.uc_session.proofs.Told.{acted_does, begun}
use Rattle.uc_session.proofs.playing.play_boot.Goals as goal

pub returns-in-Ok-clause-does : goal.returns-in-Ok-clause-does
returns-in-Ok-clause-does g c =
    acted_does
    (record { stands = g.S.Sink.stands; faults = g.S.Sink.faults; lists = g.R.Rendezvous.lists; held = HeldWhere (g.F.Pieces.tells c.args.files.now) (g.F.Files.holds c.args.files.now) })
    (setting_of c.args.parts.now) (Boot c.args.names.now)
    (record { state = state_of c.args.parts.now; files = g.F.Pieces.faults c.args.files.now; runs = g.R.Rendezvous.runs c.args.how.now; sink = c.args.out.now })
    (record { state = state_of c.boot.new.parts; files = g.F.Pieces.faults c.boot.new.files; runs = g.R.Rendezvous.runs c.args.how.now; sink = c.tell.new.out })
    c.in-Ok.acted c.args.names.now c.tell.result c.in-Ok.ensures.done refl refl c.tell.ensures

pub returns-in-Err-clause-does : goal.returns-in-Err-clause-does
returns-in-Err-clause-does g c =
    begun
    (record { stands = g.S.Sink.stands; faults = g.S.Sink.faults; lists = g.R.Rendezvous.lists; held = HeldWhere (g.F.Pieces.tells c.args.files.now) (g.F.Files.holds c.args.files.now) })
    (setting_of c.args.parts.now) (Boot c.args.names.now)
    (record { state = state_of c.args.parts.now; files = g.F.Pieces.faults c.args.files.now; runs = g.R.Rendezvous.runs c.args.how.now; sink = c.args.out.now })
    (record { state = state_of c.boot.new.parts; files = g.F.Pieces.faults c.boot.new.files; runs = g.R.Rendezvous.runs c.args.how.now; sink = c.args.out.now })
    (g.F.Files.holds c.args.files.now) (λ reads is told. is)
    (c.each_command_does_something.ensures.step g.R.Rendezvous.lists (setting_of c.args.parts.now) (state_of c.args.parts.now) (Boot c.args.names.now)
    (g.F.Files.holds c.args.files.now) g.met.R.Rendezvous.always_runs c.topology-topology.ensures.partition c.requires.standing)
    c.in-Err.ensures.memory.1 c.in-Err.ensures.memory.0
