-- What a call that runs a rendezvous came to.
use Rattle.std.specs.Prelude.{◌≡◌, ℕ, ◌≤◌, Bool, false, List, [], ◌∷◌, ◌++◌, Result, Ok, Err, OnOk}
use Rattle.uc_io.specs.Faults.{Rose}
use Rattle.uc_io.specs.Writing.{Grew, GrewByFront}
use Rattle.rendezvous_steps.specs.declared.ends.Beat.{Beat}
use Rattle.rendezvous_steps.specs.Plan.{Plan}
use Rattle.rendezvous_model.specs.Outcome.{Outcome}
use Rattle.rendezvous_rule.specs.Ran.{Ran}
use Rattle.rendezvous_rule.specs.Runs.{RunOf, SomeRun}
use Rattle.rendezvous_steps.specs.ItemText.{item_line}
use Rattle.uc_rendezvous.specs.declared.outcomes.Outcome.{Outcome as Tables}
use Rattle.uc_rendezvous.specs.declared.runs.RunAnswer.{RunAnswer}
use Rattle.uc_rendezvous.specs.declared.runs.RunAnswer.TheVariants.{WriteFault, NoMemory}
use Rattle.uc_rendezvous.specs.Outcomes.{outcome_of}

-- the outside of a rendezvous by its meanings: which bytes stand in a sink, and the count of the sink's faults; and
-- whether items are listed
pub record RunOutside (D : Type 0) : Type 1 where
  pub stands : D → List ℕ → Type 0
  pub faults : D → ℕ
  pub lists : Bool

-- what runs leave: those that were kept, and the sink that they were written to
pub record RunTraces (D : Type 0) : Type 0 where
  pub runs : List RunOf
  pub sink : D

-- a run came to this outcome: its text was written, and where it prints no items it was kept
pub record RanTo {D : Type 0}
    (outside : RunOutside D) (plan : Plan) (beats : List Beat) (before now : RunTraces D) (outcome : Outcome) :
    Type 0 where
  pub text : List ℕ
  pub late : Bool
  pub ran : Ran item_line outside.lists plan beats text outcome late
  pub grew : Grew outside.stands before.sink now.sink text
  pub kept :
      outside.lists ≡ false → now.runs ≡ before.runs ++ record { plan = plan; outcome = outcome; late = late } ∷ []

-- a front of a run's text was written, the count of faults rose, and nothing was kept
pub record CutShort {D : Type 0}
    (outside : RunOutside D) (plan : Plan) (beats : List Beat) (before now : RunTraces D) : Type 0 where
  pub run : SomeRun item_line outside.lists plan beats
  pub front : GrewByFront outside.stands before.sink now.sink run.text
  pub rose : Rose (outside.faults before.sink) (outside.faults now.sink)
  pub kept : outside.lists ≡ false → now.runs ≡ before.runs

-- nothing was written or kept
pub record NothingRan {D : Type 0} (lists : Bool) (before now : RunTraces D) : Type 0 where
  pub same_sink : now.sink ≡ before.sink
  pub kept : lists ≡ false → now.runs ≡ before.runs

abbrev pub CameTo : {D : Type 0} → RunOutside D → Plan → List Beat → RunTraces D → RunTraces D →
    Result Tables RunAnswer → Type 0
CameTo outside plan beats before now (Ok outcome) = RanTo outside plan beats before now (outcome_of outcome)
CameTo outside plan beats before now (Err WriteFault) = CutShort outside plan beats before now
CameTo outside plan beats before now (Err NoMemory) = NothingRan outside.lists before now

pub record IsRun {D : Type 0}
    (outside : RunOutside D) (plan : Plan) (beats : List Beat) (before now : RunTraces D)
    (result : Result Tables RunAnswer) : Type 0 where
  -- the count of faults never falls, and stands still where the run came to an outcome
  pub later : outside.faults before.sink ≤ outside.faults now.sink
  pub still : OnOk result (outside.faults now.sink ≡ outside.faults before.sink)
  pub answer : CameTo outside plan beats before now result
