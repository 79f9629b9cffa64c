use Rattle.std.proofs.Common.{◌≡◌, ℕ, true, [], refl, sym, ap, ◌∙◌, subst, arith}
use Rattle.std.proofs.lemmas.List.Sums.{AllPass-from_list_all}
use Rattle.uc_io.specs.Faults.{Rose}
use Rattle.session_steps.specs.script_text.Within.{fits_command}
use Rattle.session_steps.specs.State.{Setting, State, opening_state}
use Rattle.session_steps.specs.Calls.{HeldWhere}
use Rattle.session_steps.specs.session_text.declared.answers.SessionAnswer.{SessionAnswer}
use Rattle.session_steps.specs.Session.{short_unless}
use Rattle.session_steps.specs.Whole.{SinkCauseAt}
use Rattle.session_laws.specs.Standing.{InRange}
use Rattle.cut_laws.specs.SoFar.{PlayedSoFar}
use Rattle.cut_laws.proofs.Within.{limits_of, all_in_range}
use Rattle.cut_laws.proofs.Played.{before_the_first, nothing_played}
use Rattle.uc_session.specs.Sessions.{setting_of, state_of}
use Rattle.uc_session.proofs.InTurn.{setting_is, opening_is, at_place, range_now, beats_now, rose_late, one_more_at, last_at, cut_at, all_at, still_at}
use Rattle.uc_session.proofs.running.run_session.Goals as goal

-- no command was begun
pub returns-in_default-clause-played : goal.returns-in_default-clause-played
returns-in_default-clause-played g c =
    let setting : Setting =
    record { machine = c.args.topology.now; blocks = c.args.script.now.pool; patience = c.args.script.now.patience } in
    nothing_played
    (record { stands = g.S.Sink.stands; faults = g.S.Sink.faults; lists = g.R.Rendezvous.lists; held = HeldWhere (g.F.Pieces.tells c.args.files.now) (g.F.Files.holds c.args.files.now) })
    (g.F.Pieces.tells c.args.files.now) (g.F.Files.holds c.args.files.now) setting
    (record { files = g.F.Pieces.faults c.args.files.now; runs = g.R.Rendezvous.runs c.args.how.now; sink = c.args.out.now })
    c.each_command_does_something.ensures.session c.each_state_stands.ensures.opening g.met.R.Rendezvous.always_runs
    c.threads-threads.ensures.partition c.args.script.now.commands
    (all_in_range setting c.args.script.now.commands c.requires.within.each)

pub loop-place-init : goal.loop-place-init
loop-place-init g c =
    let setting : Setting =
    record { machine = c.args.topology.now; blocks = c.args.script.now.pool; patience = c.args.script.now.patience } in
    let set : setting_of c.in-Ok.session ≡ setting =
    setting_is (setting_of c.in-Ok.session) c.args.topology.now c.pool.result c.args.script.now.pool c.patience.result
    c.args.script.now.patience c.in-Ok.ensures.setting c.pool.ensures c.patience.ensures in
    let opens : state_of c.in-Ok.session ≡ opening_state setting =
    opening_is (setting_of c.in-Ok.session) setting (state_of c.in-Ok.session) c.in-Ok.ensures.opening set in
    record {
      so_far =
          subst (λ (s : State).
          PlayedSoFar
          (record { stands = g.S.Sink.stands; faults = g.S.Sink.faults; lists = g.R.Rendezvous.lists; held = HeldWhere (g.F.Pieces.tells c.args.files.now) (g.F.Files.holds c.args.files.now) })
          setting [] true
          (record { files = g.F.Pieces.faults c.args.files.now; runs = g.R.Rendezvous.runs c.args.how.now; sink = c.args.out.now })
          (record { state = s; files = g.F.Pieces.faults c.args.files.now; runs = g.R.Rendezvous.runs c.args.how.now; sink = c.args.out.now })) (sym opens)
          (before_the_first
          (record { stands = g.S.Sink.stands; faults = g.S.Sink.faults; lists = g.R.Rendezvous.lists; held = HeldWhere (g.F.Pieces.tells c.args.files.now) (g.F.Files.holds c.args.files.now) })
          (g.F.Pieces.tells c.args.files.now) (g.F.Files.holds c.args.files.now) setting
          (record { files = g.F.Pieces.faults c.args.files.now; runs = g.R.Rendezvous.runs c.args.how.now; sink = c.args.out.now }));
      setting = set;
      same = refl;
      still = λ tell. tell;
      later = omega arith;
      sink_still = refl;
      most_stays = refl;
    }

pub run-requires-clause-range : goal.run-requires-clause-range
run-requires-clause-range g c =
    let setting : Setting =
    record { machine = c.args.topology.now; blocks = c.args.script.now.pool; patience = c.args.script.now.patience } in
    range_now setting (setting_of c.loop-place.session) c.command-item.result c.loop-place.invariant.setting
    (at_place c.args.script.now.commands _ c.commands-command-items.ensures c.loop-place.place c.command-item.result
    c.loop-place-test.true c.command-item.is (λ one. InRange setting one)
    (all_in_range setting c.args.script.now.commands c.requires.within.each))

pub run-requires-clause-beats : goal.run-requires-clause-beats
run-requires-clause-beats g c =
    let setting : Setting =
    record { machine = c.args.topology.now; blocks = c.args.script.now.pool; patience = c.args.script.now.patience } in
    beats_now setting (setting_of c.loop-place.session) c.command-item.result c.loop-place.invariant.setting
    (at_place c.args.script.now.commands _ c.commands-command-items.ensures c.loop-place.place c.command-item.result
    c.loop-place-test.true c.command-item.is
    (λ one. fits_command (limits_of setting) one ≡ true)
    (AllPass-from_list_all (fits_command (limits_of setting)) c.args.script.now.commands c.requires.within.each))

-- a command ended the session
pub returns-in-Some-clause-played : goal.returns-in-Some-clause-played
returns-in-Some-clause-played g c =
    let setting : Setting =
    record { machine = c.args.topology.now; blocks = c.args.script.now.pool; patience = c.args.script.now.patience } in
    last_at c.args.script.now.commands _ c.commands-command-items.ensures c.loop-place.place c.command-item.result
    c.loop-place-test.true c.command-item.is
    (record { stands = g.S.Sink.stands; faults = g.S.Sink.faults; lists = g.R.Rendezvous.lists; held = HeldWhere (g.F.Pieces.tells c.args.files.now) (g.F.Files.holds c.args.files.now) })
    (g.F.Pieces.tells c.args.files.now) (g.F.Files.holds c.args.files.now)
    setting (setting_of c.loop-place.session)
    c.loop-place.invariant.setting _ _ _ c.loop-place.invariant.so_far (g.F.Pieces.tells c.loop-place.files)
    (g.F.Files.holds c.loop-place.files) c.loop-place.invariant.still c.loop-place.invariant.same _ _
    c.in-Answered.ensures.played c.in-Some.end c.in-Some.ensures.0 c.in-Some.ensures.1

pub returns-in-Some-clause-sink_cause : goal.returns-in-Some-clause-sink_cause
returns-in-Some-clause-sink_cause g c =
    subst
    (λ (end : SessionAnswer). SinkCauseAt end (g.S.Sink.faults c.args.out.now) (g.S.Sink.faults c.run.new.out))
    (sym c.in-Some.ensures.1)
    (still_at c.in-Answered.answer (g.S.Sink.faults c.args.out.now) (g.S.Sink.faults c.run.new.out)
    (c.in-Answered.ensures.sink_cause ∙ c.loop-place.invariant.sink_still))

pub returns-in-WriteFault-clause-sink_cause : goal.returns-in-WriteFault-clause-sink_cause
returns-in-WriteFault-clause-sink_cause g c =
    subst (λ (before : ℕ). Rose before (g.S.Sink.faults c.run.new.out)) c.loop-place.invariant.sink_still
    c.in-WriteFault.ensures.sink_cause

pub returns-in-WriteFault-clause-played : goal.returns-in-WriteFault-clause-played
returns-in-WriteFault-clause-played g c =
    let setting : Setting =
    record { machine = c.args.topology.now; blocks = c.args.script.now.pool; patience = c.args.script.now.patience } in
    let cut = c.in-WriteFault.ensures.played in (
      cut_at c.args.script.now.commands _ c.commands-command-items.ensures c.loop-place.place c.command-item.result
          c.loop-place-test.true c.command-item.is
          (record { stands = g.S.Sink.stands; faults = g.S.Sink.faults; lists = g.R.Rendezvous.lists; held = HeldWhere (g.F.Pieces.tells c.args.files.now) (g.F.Files.holds c.args.files.now) })
          (g.F.Pieces.tells c.args.files.now) (g.F.Files.holds c.args.files.now)
          setting (setting_of c.loop-place.session)
          c.loop-place.invariant.setting _ _ _ c.loop-place.invariant.so_far
          (g.F.Pieces.tells c.loop-place.files) (g.F.Files.holds c.loop-place.files) c.loop-place.invariant.still
          c.loop-place.invariant.same c.begun_commands_go_on.ensures g.met.R.Rendezvous.always_runs
          c.threads-threads.ensures.partition (all_in_range setting c.args.script.now.commands c.requires.within.each)
          _ cut.starts,
      rose_late (g.S.Sink.faults c.args.out.now) (g.S.Sink.faults c.loop-place.out) (g.S.Sink.faults c.run.new.out)
          (omega (arith, c.loop-place.invariant.sink_still)) c.in-WriteFault.ensures.sink_later cut.rose,
    )

pub returns-in-NoMemory-clause-played : goal.returns-in-NoMemory-clause-played
returns-in-NoMemory-clause-played g c =
    let setting : Setting =
    record { machine = c.args.topology.now; blocks = c.args.script.now.pool; patience = c.args.script.now.patience } in
    let cut = c.in-NoMemory.ensures.played in
    cut_at c.args.script.now.commands _ c.commands-command-items.ensures c.loop-place.place c.command-item.result
    c.loop-place-test.true c.command-item.is
    (record { stands = g.S.Sink.stands; faults = g.S.Sink.faults; lists = g.R.Rendezvous.lists; held = HeldWhere (g.F.Pieces.tells c.args.files.now) (g.F.Files.holds c.args.files.now) })
    (g.F.Pieces.tells c.args.files.now) (g.F.Files.holds c.args.files.now)
    setting (setting_of c.loop-place.session)
    c.loop-place.invariant.setting _ _ _ c.loop-place.invariant.so_far
    (g.F.Pieces.tells c.loop-place.files) (g.F.Files.holds c.loop-place.files) c.loop-place.invariant.still
    c.loop-place.invariant.same c.begun_commands_go_on.ensures g.met.R.Rendezvous.always_runs
    c.threads-threads.ensures.partition (all_in_range setting c.args.script.now.commands c.requires.within.each)
    _ cut.starts

pub loop-place-preserved : goal.loop-place-preserved
loop-place-preserved g c =
    let setting : Setting =
    record { machine = c.args.topology.now; blocks = c.args.script.now.pool; patience = c.args.script.now.patience } in
    record {
      so_far =
          one_more_at c.args.script.now.commands _ c.commands-command-items.ensures c.loop-place.place
          c.command-item.result
          c.loop-place-test.true c.command-item.is
          (record { stands = g.S.Sink.stands; faults = g.S.Sink.faults; lists = g.R.Rendezvous.lists; held = HeldWhere (g.F.Pieces.tells c.args.files.now) (g.F.Files.holds c.args.files.now) })
          (g.F.Pieces.tells c.args.files.now) (g.F.Files.holds c.args.files.now) setting (setting_of c.loop-place.session) c.loop-place.invariant.setting
          _ _ _
          c.loop-place.invariant.so_far (g.F.Pieces.tells c.loop-place.files) (g.F.Files.holds c.loop-place.files)
          c.loop-place.invariant.still c.loop-place.invariant.same _ _ c.in-Answered.ensures.played
          c.all_done-done.result c.all_done-done.ensures c.in_default-end_by.ensures;
      setting = c.in-Answered.ensures.setting ∙ c.loop-place.invariant.setting;
      same = c.in-Answered.ensures.same ∙ c.loop-place.invariant.same;
      still = λ tell. c.in-Answered.ensures.still (c.loop-place.invariant.still tell);
      later = omega (arith, c.loop-place.invariant.later, c.in-Answered.ensures.later);
      sink_still = c.in-Answered.ensures.sink_cause ∙ c.loop-place.invariant.sink_still;
      most_stays = c.in-Answered.ensures.most_stays ∙ c.loop-place.invariant.most_stays;
    }

pub returns-then-done-clause-played : goal.returns-then-done-clause-played
returns-then-done-clause-played g c =
    all_at
    (record { stands = g.S.Sink.stands; faults = g.S.Sink.faults; lists = g.R.Rendezvous.lists; held = HeldWhere (g.F.Pieces.tells c.args.files.now) (g.F.Files.holds c.args.files.now) })
    (g.F.Pieces.tells c.args.files.now) (g.F.Files.holds c.args.files.now) _
    c.args.script.now.commands _ c.commands-command-items.ensures c.loop-place.place c.loop-place.done _ _ _
    c.loop-place-test.false c.loop-place.invariant.so_far
    (ap short_unless c.if-done.true)

pub returns-clause-played : goal.returns-clause-played
returns-clause-played g c =
    all_at
    (record { stands = g.S.Sink.stands; faults = g.S.Sink.faults; lists = g.R.Rendezvous.lists; held = HeldWhere (g.F.Pieces.tells c.args.files.now) (g.F.Files.holds c.args.files.now) })
    (g.F.Pieces.tells c.args.files.now) (g.F.Files.holds c.args.files.now) _
    c.args.script.now.commands _ c.commands-command-items.ensures c.loop-place.place c.loop-place.done _ _ _
    c.loop-place-test.false c.loop-place.invariant.so_far
    (ap short_unless c.if-done.false)
