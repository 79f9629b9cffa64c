-- A run with its plan and what it came to, and the beats that a plan can be run over.
use Rattle.std.specs.Prelude.{ℕ, ◌<◌, ◌≤◌, Bool, List, slice_index}
use Rattle.rendezvous_steps.specs.declared.items.Item.{Item}
use Rattle.rendezvous_steps.specs.declared.ends.Beat.{Beat}
use Rattle.rendezvous_steps.specs.declared.ends.Beat.TheVariants.{Step, Timeout, Nmi, Run, Rounds}
use Rattle.rendezvous_steps.specs.Plan.{Plan, Sound}
use Rattle.rendezvous_steps.specs.Padded.{Padded}
use Rattle.rendezvous_model.specs.Outcome.{Outcome}
use Rattle.rendezvous_rule.specs.Ran.{Ran}

-- what is kept of a run: its plan, its outcome, and whether a thread gave up on others
pub record RunOf : Type 0 where
  pub plan : Plan
  pub outcome : Outcome
  pub late : Bool

-- the event of a beat is one of the first so many threads
abbrev pub BeatInRange : ℕ → Beat → Type 0
BeatInRange threads (Step t) = t < threads
BeatInRange threads (Timeout t) = t < threads
BeatInRange threads (Nmi t) = t < threads
BeatInRange threads (Run t) = t < threads
BeatInRange threads (Rounds n) = Unit {0}

-- a run of a plan over beats: its text and what it comes to
pub record SomeRun (line : Item → List ℕ) (lists : Bool) (plan : Plan) (beats : List Beat) : Type 0 where
  pub text : List ℕ
  pub outcome : Outcome
  pub late : Bool
  pub ran : Ran line lists plan beats text outcome late

-- Laws on runs.

-- every sound plan has a run, whatever the beats
abbrev pub AlwaysRuns : (Item → List ℕ) → Bool → Type 0
AlwaysRuns line lists =
    (plan : Plan) (beats : List Beat) → Sound plan → Padded plan → SomeRun line lists plan beats

-- in a run of a sound plan no group's revision falls
abbrev pub RanGrows : (Item → List ℕ) → Bool → Type 0
RanGrows line lists =
    (plan : Plan) (beats : List Beat) (text : List ℕ) (outcome : Outcome) (late : Bool) →
    Sound plan → Padded plan → Ran line lists plan beats text outcome late →
    (g : ℕ) → g < plan.groups → plan.rev0 g ≤ slice_index outcome.revs g
