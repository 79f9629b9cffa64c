use Rattle.std.proofs.Common.{◌≡◌, ℕ, Bool, List, [], refl, sym, ap, ◌∙◌, subst, arith}
use Rattle.std.proofs.lemmas.List.Elements.{All-nil}
use Rattle.uc_io.specs.declared.sinks.SinkFailed.{SinkFailed}
use Rattle.session_steps.specs.read_model.Reads.{Read}
use Rattle.session_steps.specs.script_text.declared.command.Command.{Command}
use Rattle.session_steps.specs.script_text.declared.command.Command.TheVariants.{Boot, Load}
use Rattle.session_steps.specs.Calls.{HeldWhere}
use Rattle.session_steps.specs.Played.{FileCause, SinkCause}
use Rattle.session_parts.specs.Parts.{setting_of, state_of}
use Rattle.uc_session.specs.Playing.{Does}
use Rattle.uc_session.proofs.Told.{acted_does, does_play, nothing_played}
use Rattle.uc_session.proofs.playing.play.Goals as goal

pub returns-in-Err-clause-played : goal.returns-in-Err-clause-played
returns-in-Err-clause-played g c =
    nothing_played
    (record { stands = g.S.Sink.stands; faults = g.S.Sink.faults; lists = g.R.Rendezvous.lists; held = HeldWhere (g.F.Pieces.tells c.args.files.now) (g.F.Files.holds c.args.files.now) })
    (setting_of c.args.parts.now) c.args.command.now
    (record { state = state_of c.args.parts.now; files = g.F.Pieces.faults c.args.files.now; runs = g.R.Rendezvous.runs c.args.how.now; sink = c.args.out.now })
    (record { state = state_of c.args.parts.now; files = g.F.Pieces.faults c.args.files.now; runs = g.R.Rendezvous.runs c.args.how.now; sink = c.put_heading.new.out })
    {E = SinkFailed} c.in-Err.field-0 c.args.number (g.F.Files.holds c.args.files.now) (λ reads is told. is)
    (c.each_command_does_something.ensures.step g.R.Rendezvous.lists (setting_of c.args.parts.now) (state_of c.args.parts.now) c.args.command.now
    (g.F.Files.holds c.args.files.now) g.met.R.Rendezvous.always_runs c.topology-topology.ensures.partition c.requires.standing)
    refl refl c.in-Err.ensures

pub returns-in-Boot-clause-played : goal.returns-in-Boot-clause-played
returns-in-Boot-clause-played g c =
    does_play
    (record { stands = g.S.Sink.stands; faults = g.S.Sink.faults; lists = g.R.Rendezvous.lists; held = HeldWhere (g.F.Pieces.tells c.args.files.now) (g.F.Files.holds c.args.files.now) })
    (setting_of c.args.parts.now) c.args.command.now
    (record { state = state_of c.args.parts.now; files = g.F.Pieces.faults c.args.files.now; runs = g.R.Rendezvous.runs c.args.how.now; sink = c.args.out.now })
    (record { state = state_of c.play_boot.new.parts; files = g.F.Pieces.faults c.play_boot.new.files; runs = g.R.Rendezvous.runs c.args.how.now; sink = c.play_boot.new.out })
    {E = SinkFailed} c.args.number c.put_heading.new.out c.play_boot.result c.in-Ok.ensures
    (subst
    (λ (one : Command). Does
    (record { stands = g.S.Sink.stands; faults = g.S.Sink.faults; lists = g.R.Rendezvous.lists; held = HeldWhere (g.F.Pieces.tells c.args.files.now) (g.F.Files.holds c.args.files.now) })
    (setting_of c.args.parts.now) one
    (record { state = state_of c.args.parts.now; files = g.F.Pieces.faults c.args.files.now; runs = g.R.Rendezvous.runs c.args.how.now; sink = c.put_heading.new.out })
    (record { state = state_of c.play_boot.new.parts; files = g.F.Pieces.faults c.play_boot.new.files; runs = g.R.Rendezvous.runs c.args.how.now; sink = c.play_boot.new.out })
    c.play_boot.result)
    (ap Boot c.as_slice.ensures ∙ sym c.in-Boot.is) c.play_boot.ensures.does)

pub returns-in-Load-clause-played : goal.returns-in-Load-clause-played
returns-in-Load-clause-played g c =
    does_play
    (record { stands = g.S.Sink.stands; faults = g.S.Sink.faults; lists = g.R.Rendezvous.lists; held = HeldWhere (g.F.Pieces.tells c.args.files.now) (g.F.Files.holds c.args.files.now) })
    (setting_of c.args.parts.now) c.args.command.now
    (record { state = state_of c.args.parts.now; files = g.F.Pieces.faults c.args.files.now; runs = g.R.Rendezvous.runs c.args.how.now; sink = c.args.out.now })
    (record { state = state_of c.play_load.new.parts; files = g.F.Pieces.faults c.play_load.new.files; runs = g.R.Rendezvous.runs c.play_load.new.how; sink = c.play_load.new.out })
    {E = SinkFailed} c.args.number c.put_heading.new.out c.play_load.result c.in-Ok.ensures
    (subst
    (λ (one : Command). Does
    (record { stands = g.S.Sink.stands; faults = g.S.Sink.faults; lists = g.R.Rendezvous.lists; held = HeldWhere (g.F.Pieces.tells c.args.files.now) (g.F.Files.holds c.args.files.now) })
    (setting_of c.args.parts.now) one
    (record { state = state_of c.args.parts.now; files = g.F.Pieces.faults c.args.files.now; runs = g.R.Rendezvous.runs c.args.how.now; sink = c.put_heading.new.out })
    (record { state = state_of c.play_load.new.parts; files = g.F.Pieces.faults c.play_load.new.files; runs = g.R.Rendezvous.runs c.play_load.new.how; sink = c.play_load.new.out })
    c.play_load.result)
    (ap (λ (names : List (List ℕ)). Load c.in-Load.force names c.as_slice-in-Load-2.result.now) c.as_slice-in-Load.ensures
    ∙ ap (Load c.in-Load.force c.in-Load.names) c.as_slice-in-Load-2.ensures
    ∙ sym c.in-Load.is)
    c.play_load.ensures.does)

pub returns-in-Err-clause-sink_cause : goal.returns-in-Err-clause-sink_cause
returns-in-Err-clause-sink_cause g c = c.in-Err.ensures.outcome.1

-- what was shown and told comes behind the heading, which was written
pub returns-in-Boot-clause-sink_cause : goal.returns-in-Boot-clause-sink_cause
returns-in-Boot-clause-sink_cause g c =
    subst (λ (before : ℕ). SinkCause c.play_boot.result before (g.S.Sink.faults c.play_boot.new.out)) c.in-Ok.ensures.still
    c.play_boot.ensures.does.rest.cause

pub returns-in-Load-clause-sink_cause : goal.returns-in-Load-clause-sink_cause
returns-in-Load-clause-sink_cause g c =
    subst (λ (before : ℕ). SinkCause c.play_load.result before (g.S.Sink.faults c.play_load.new.out)) c.in-Ok.ensures.still
    c.play_load.ensures.does.rest.cause

pub returns-in_default : goal.returns-in_default
returns-in_default g c =
    let does =
    acted_does
    (record { stands = g.S.Sink.stands; faults = g.S.Sink.faults; lists = g.R.Rendezvous.lists; held = HeldWhere (g.F.Pieces.tells c.args.files.now) (g.F.Files.holds c.args.files.now) })
    (setting_of c.args.parts.now) c.args.command.now
    (record { state = state_of c.args.parts.now; files = g.F.Pieces.faults c.args.files.now; runs = g.R.Rendezvous.runs c.args.how.now; sink = c.put_heading.new.out })
    (record { state = state_of c.play_plain.new.parts; files = g.F.Pieces.faults c.args.files.now; runs = g.R.Rendezvous.runs c.args.how.now; sink = c.play_plain.new.out })
    c.play_plain.ensures.acted.0 _ c.play_plain.result
    (record {
      reads = [];
      is_held = λ told. All-nil (λ (read : Read). read.bytes ≡ g.F.Files.holds c.args.files.now read.name);
      step = c.play_plain.ensures.acted.2;
      cause = subst (λ (unread : Bool). FileCause unread (g.F.Pieces.faults c.args.files.now) (g.F.Pieces.faults c.args.files.now)) (sym c.play_plain.ensures.acted.1) refl;
    })
    refl refl c.play_plain.ensures.acted.3 in
    record {
      played =
          does_play
          (record { stands = g.S.Sink.stands; faults = g.S.Sink.faults; lists = g.R.Rendezvous.lists; held = HeldWhere (g.F.Pieces.tells c.args.files.now) (g.F.Files.holds c.args.files.now) })
          (setting_of c.args.parts.now) c.args.command.now
          (record { state = state_of c.args.parts.now; files = g.F.Pieces.faults c.args.files.now; runs = g.R.Rendezvous.runs c.args.how.now; sink = c.args.out.now })
          (record { state = state_of c.play_plain.new.parts; files = g.F.Pieces.faults c.args.files.now; runs = g.R.Rendezvous.runs c.args.how.now; sink = c.play_plain.new.out })
          {E = SinkFailed} c.args.number c.put_heading.new.out c.play_plain.result c.in-Ok.ensures does;
      setting = c.play_plain.ensures.setting;
      same = refl;
      still = λ told. told;
      later = omega arith;
      sink_later = omega (arith, c.in-Ok.ensures.later, does.rest.later);
      sink_cause =
          subst (λ (before : ℕ). SinkCause c.play_plain.result before (g.S.Sink.faults c.play_plain.new.out)) c.in-Ok.ensures.still
          does.rest.cause;
      most_stays = refl;
    }
