-- A whole schedule is a run that lists its items.
use Rattle.std.proofs.Common.{ℕ, ◌≤◌, ◌≡◌, true, false, List, map, Result, Ok, Err, OnOk, refl, true≢false}
use Rattle.rendezvous_steps.specs.declared.ends.Beat.{Beat}
use Rattle.rendezvous_steps.specs.Plan.{Plan, Sound, threads_from}
use Rattle.rendezvous_steps.specs.Padded.{Padded}
use Rattle.rendezvous_rule.specs.Runs.{RunOf, SomeRun}
use Rattle.rendezvous_rule.specs.Shown.{shown_by}
use Rattle.rendezvous_model.specs.Round.{State}
use Rattle.rendezvous_model.specs.Outcome.{Outcome, end_of, decide_of}
use Rattle.std.specs.List.{range_with_len}
use Rattle.play_laws.proofs.Listed.{plays_are_listed}
use Rattle.rendezvous_steps.specs.ItemText.{item_line}
use Rattle.uc_rendezvous.specs.declared.outcomes.Outcome.{Outcome as Tables}
use Rattle.uc_rendezvous.specs.declared.runs.RunAnswer.{RunAnswer}
use Rattle.uc_rendezvous.specs.declared.runs.RunAnswer.TheVariants.{WriteFault, NoMemory}
use Rattle.uc_rendezvous.specs.Outcomes.{outcome_of, came_to}
use Rattle.uc_rendezvous.specs.Runs.{IsRun}
use Rattle.ctl_core.specs.Playing.{schedule_lines, schedule_end, PlayedTo}

-- the outcome that shows a state
abbrev outcome_at : Plan → State → Outcome
outcome_at plan state = record {
  decide = decide_of state.stage;
  ends = map (λ t. end_of (state.place t)) (threads_from plan 0);
  revs = map state.revision (range_with_len 0 plan.groups);
}

-- the run that a whole schedule comes to
abbrev schedule_run : (plan : Plan) (beats : List Beat) → Sound plan → Padded plan → SomeRun item_line true plan beats
schedule_run plan beats sound padded = record {
  text = schedule_lines plan beats;
  outcome = outcome_at plan (shown_by plan (schedule_end plan beats));
  late = false;
  ran = plays_are_listed item_line plan beats (schedule_lines plan beats) (outcome_at plan (shown_by plan (schedule_end plan beats))) sound padded refl (record { decide = refl; ends = refl; revs = refl });
}

pub on_came : {E : Type 0} (P : Type 0) (outcome : Tables) (result : Result (Unit {0}) E) → OnOk result P → OnOk (came_to outcome result) P
on_came P outcome (Ok _) holds = holds
on_came P outcome (Err _) _ = tt

pub schedule_is_run : {D : Type 0} (stands : D → List ℕ → Type 0) (faults : D → ℕ) (plan : Plan) (beats : List Beat) (before after : List RunOf) (old new : D) (result : Result Tables RunAnswer) → Sound plan → Padded plan → faults old ≤ faults new → OnOk result (faults new ≡ faults old) → PlayedTo stands faults plan beats old new result → IsRun (record { stands = stands; faults = faults; lists = true }) plan beats (record { runs = before; sink = old }) (record { runs = after; sink = new }) result
schedule_is_run stands faults plan beats before after old new (Ok outcome) sound padded later still played = record {
  later = later;
  still = still;
  answer = record {
    text = schedule_lines plan beats;
    late = false;
    ran = plays_are_listed item_line plan beats (schedule_lines plan beats) (outcome_of outcome) sound padded refl played.1;
    grew = played.0;
    kept = λ no. absurd (true≢false no);
  };
}
schedule_is_run stands faults plan beats before after old new (Err WriteFault) sound padded later still played = record {
  later = later;
  still = still;
  answer = record {
    run = schedule_run plan beats sound padded;
    front = played.0;
    rose = played.1;
    kept = λ no. absurd (true≢false no);
  };
}
schedule_is_run stands faults plan beats before after old new (Err NoMemory) sound padded later still played = record {
  later = later;
  still = still;
  answer = record { same_sink = played; kept = λ no. absurd (true≢false no) };
}
