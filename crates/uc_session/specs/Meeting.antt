-- What comes of a load that has something to offer.
use Rattle.std.specs.Prelude.{◌≡◌, ℕ, ◌≤◌, Bool, false, List, [], ◌∷◌, ◌++◌, Result, Ok, Err}
use Rattle.uc_io.specs.Faults.{Rose}
use Rattle.uc_io.specs.Writing.{Grew, Writes}
use Rattle.session_steps.specs.status_rule.Written.{IsFront}
use Rattle.session_steps.specs.rendezvous_steps.declared.ends.Beat.{Beat}
use Rattle.session_steps.specs.rendezvous_steps.Plan.{Plan}
use Rattle.rendezvous_model.specs.Outcome.{Outcome}
use Rattle.session_steps.specs.rendezvous_rule.Ran.{Ran}
use Rattle.session_steps.specs.rendezvous_rule.Runs.{SomeRun}
use Rattle.session_steps.specs.rendezvous_steps.ItemText.{item_line}
use Rattle.session_steps.specs.session_text.declared.answers.Played.{Played}
use Rattle.session_steps.specs.session_text.declared.answers.Played.TheVariants as played
use Rattle.uc_rendezvous.specs.declared.outcomes.Outcome.{Outcome as Tables}
use Rattle.uc_rendezvous.specs.declared.runs.RunAnswer.{RunAnswer}
use Rattle.uc_rendezvous.specs.declared.runs.RunAnswer.TheVariants.{WriteFault, NoMemory}
use Rattle.uc_rendezvous.specs.Outcomes.{outcome_of}
use Rattle.uc_rendezvous.specs.Runs.{RunOutside, RunTraces}

-- the rendezvous came to an outcome: what is offered was written, and then the text of the run
pub record CameTo {D : Type 0} (outside : RunOutside D) (plan : Plan) (beats : List Beat) (offered : List ℕ)
    (before now : RunTraces D) (outcome : Outcome) : Type 0 where
  pub items : List ℕ
  pub late : Bool
  pub ran : Ran item_line outside.lists plan beats items outcome late
  pub wrote : Writes {E = Unit {0}} outside.stands outside.faults before.sink now.sink (offered ++ items) (Ok tt)
  pub kept : outside.lists ≡ false →
      now.runs ≡ before.runs ++ record { plan = plan; outcome = outcome; late = late } ∷ []

-- a front was written of what is offered and the text of a run
pub record CutShort {D : Type 0} (outside : RunOutside D) (plan : Plan) (beats : List Beat) (offered : List ℕ)
    (before now : D) : Type 0 where
  pub run : SomeRun item_line outside.lists plan beats
  pub front : List ℕ
  pub is_front : IsFront front (offered ++ run.text)
  pub later : outside.faults before ≤ outside.faults now
  pub grew : Grew outside.stands before now front

abbrev pub Meets : {D : Type 0} → RunOutside D → Plan → List Beat → List ℕ → RunTraces D → RunTraces D →
    Result Tables RunAnswer → Type 0
Meets outside plan beats offered before now (Ok outcome) =
    CameTo outside plan beats offered before now (outcome_of outcome)
Meets outside plan beats offered before now (Err WriteFault) =
    CutShort outside plan beats offered before.sink now.sink
    × Rose (outside.faults before.sink) (outside.faults now.sink)
Meets outside plan beats offered before now (Err NoMemory) =
    CutShort outside plan beats offered before.sink now.sink × (outside.faults now.sink ≡ outside.faults before.sink)

-- a call whose rendezvous came to no outcome
abbrev pub cut_short : RunAnswer → Played
cut_short WriteFault = played.WriteFault
cut_short NoMemory = played.NoMemory
