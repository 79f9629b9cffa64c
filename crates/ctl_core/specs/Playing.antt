-- What is printed when events are played on a core.
use Rattle.std.specs.Prelude.{◌≡◌, ℕ, List, Result, Ok, Err, OnOk}
use Rattle.std.specs.List.{flat_map}
use Rattle.uc_io.specs.Faults.{Rose}
use Rattle.uc_io.specs.Writing.{Grew, GrewByFront, Writes}
use Rattle.rendezvous_steps.specs.declared.items.Event.{Event}
use Rattle.rendezvous_steps.specs.declared.ends.Beat.{Beat}
use Rattle.rendezvous_steps.specs.Plan.{Plan}
use Rattle.rendezvous_steps.specs.Events.{Running, opening_running}
use Rattle.rendezvous_model.specs.Outcome.{OutcomeShows}
use Rattle.rendezvous_rule.specs.Ran.{events_of}
use Rattle.rendezvous_rule.specs.Shown.{shown_by}
use Rattle.play_steps.specs.Play.{play, last_moment}
use Rattle.rendezvous_steps.specs.ItemText.{item_line}
use Rattle.uc_rendezvous.specs.declared.outcomes.Outcome.{Outcome as Tables}
use Rattle.uc_rendezvous.specs.declared.runs.RunAnswer.{RunAnswer}
use Rattle.uc_rendezvous.specs.declared.runs.RunAnswer.TheVariants.{WriteFault, NoMemory}
use Rattle.uc_rendezvous.specs.Outcomes.{outcome_of}
use Rattle.ctl_core.specs.declared.cores.Core.{Core}
use Rattle.ctl_core.specs.Cores.{moment_in}

-- the lines of the items that events come to
abbrev pub lines_of : Plan → Running → List Event → List ℕ
lines_of plan moment events = flat_map item_line (play plan moment events)

-- a run under way: its moment, and the sink of its lines
pub record UnderWay (D : Type 0) : Type 0 where
  pub moment : Running
  pub sink : D

abbrev pub under_way : {D : Type 0} → Core → D → UnderWay D
under_way core sink = record { moment = moment_in core; sink = sink }

-- The lines were written, and the moment is the last one; or a front of the lines was written, and the count of faults
-- rose.
pub record Plays {D E : Type 0}
    (stands : D → List ℕ → Type 0) (faults : D → ℕ) (plan : Plan) (before now : UnderWay D) (events : List Event)
    (result : Result (Unit {0}) E) : Type 0 where
  pub wrote : Writes stands faults before.sink now.sink (lines_of plan before.moment events) result
  pub came : OnOk result (now.moment ≡ last_moment plan before.moment events)

-- the lines of a whole schedule
abbrev pub schedule_lines : Plan → List Beat → List ℕ
schedule_lines plan beats = lines_of plan (opening_running plan) (events_of plan beats)

-- the last moment of a whole schedule
abbrev pub schedule_end : Plan → List Beat → Running
schedule_end plan beats = last_moment plan (opening_running plan) (events_of plan beats)

-- What came of a whole schedule: its lines and what they lead to; a front of them, where the count of faults rose; or
-- nothing.
abbrev pub PlayedTo : {D : Type 0} → (D → List ℕ → Type 0) → (D → ℕ) → Plan → List Beat → D → D →
    Result Tables RunAnswer → Type 0
PlayedTo stands faults plan beats old new (Ok outcome) =
    Grew stands old new (schedule_lines plan beats)
    × OutcomeShows plan (outcome_of outcome) (shown_by plan (schedule_end plan beats))
PlayedTo stands faults plan beats old new (Err WriteFault) =
    GrewByFront stands old new (schedule_lines plan beats) × Rose (faults old) (faults new)
PlayedTo stands faults plan beats old new (Err NoMemory) = new ≡ old
