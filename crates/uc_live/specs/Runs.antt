-- What a live run came to.
use Rattle.std.specs.Prelude.{◌≡◌, Bool, List, [], ◌∷◌, ◌++◌, map, Result, Ok, Err}
use Rattle.rendezvous_steps.specs.Plan.{Plan}
use Rattle.rendezvous_model.specs.Outcome.{Outcome}
use Rattle.rendezvous_rule.specs.Ran.{Unlisted}
use Rattle.rendezvous_rule.specs.Runs.{RunOf}
use Rattle.uc_rendezvous.specs.declared.outcomes.Outcome.{Outcome as Tables}
use Rattle.uc_rendezvous.specs.declared.runs.RunAnswer.{RunAnswer}
use Rattle.uc_rendezvous.specs.declared.runs.RunAnswer.TheVariants.{WriteFault, NoMemory}
use Rattle.uc_rendezvous.specs.Outcomes.{outcome_of}
use Rattle.ctl_table.specs.declared.closed.Closed.{Closed}
use Rattle.ctl_table.specs.Closes.{closed_plan, closed_outcome, was_late}
use Rattle.uc_live.specs.declared.runs.LiveRun.{LiveRun}

-- what a closed bay tells of its run
abbrev pub run_of : Closed → RunOf
run_of closed = record { plan = closed_plan closed; outcome = closed_outcome closed; late = was_late closed }

abbrev pub runs_of : {G R : Type 0} → LiveRun G R → List RunOf
runs_of run = map run_of run.kept.items

-- a run came to this outcome, as its closed bay shows it, and was kept
pub record Held (plan : Plan) (before after' : List RunOf) (outcome : Outcome) : Type 0 where
  pub late : Bool
  pub unlisted : Unlisted plan [] outcome late
  pub kept : after' ≡ before ++ record { plan = plan; outcome = outcome; late = late } ∷ []

-- it did, or memory was short and nothing was kept; nothing is printed, so no write fails
abbrev pub HeldTo : Plan → List RunOf → List RunOf → Result Tables RunAnswer → Type 0
HeldTo plan before after' (Ok outcome) = Held plan before after' (outcome_of outcome)
HeldTo plan before after' (Err WriteFault) = ⊥
HeldTo plan before after' (Err NoMemory) = after' ≡ before
