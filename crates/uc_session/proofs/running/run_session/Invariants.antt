use Rattle.std.proofs.Common.{◌≡◌, ◌≤◌, take}
use Rattle.session_steps.specs.Calls.{HeldWhere}
use Rattle.cut_laws.specs.SoFar.{PlayedSoFar}
use Rattle.uc_session.specs.Sessions.{setting_of, state_of}
use Rattle.uc_session.proofs.running.run_session.Given as goal

-- the commands so far were answered, and none of them ended the session
abbrev pub invariant-loop-place : goal.invariant-loop-place
invariant-loop-place g l = record {
  so_far :
      PlayedSoFar
      (record { stands = g.S.Sink.stands; faults = g.S.Sink.faults; lists = g.R.Rendezvous.lists; held = HeldWhere (g.F.Pieces.tells l.fn.files) (g.F.Files.holds l.fn.files) })
      (record { machine = l.topology; blocks = l.script.pool; patience = l.script.patience })
      (take l.place l.script.commands) l.done
      (record { files = g.F.Pieces.faults l.fn.files; runs = g.R.Rendezvous.runs l.fn.how; sink = l.fn.out })
      (record { state = state_of l.session; files = g.F.Pieces.faults l.files; runs = g.R.Rendezvous.runs l.how; sink = l.out });
  setting : setting_of l.session ≡ record { machine = l.topology; blocks = l.script.pool; patience = l.script.patience };
  same : g.F.Files.holds l.files ≡ g.F.Files.holds l.fn.files;
  still : g.F.Pieces.tells l.fn.files → g.F.Pieces.tells l.files;
  later : g.F.Pieces.faults l.fn.files ≤ g.F.Pieces.faults l.files;
  sink_still : g.S.Sink.faults l.out ≡ g.S.Sink.faults l.fn.out;
  most_stays : g.R.Rendezvous.limit l.how ≡ g.R.Rendezvous.limit l.fn.how;
}
