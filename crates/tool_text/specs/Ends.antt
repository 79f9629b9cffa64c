-- Why a session ends short, or with a thread that halted.
use Rattle.std.specs.Prelude.{◌≡◌, ◌≢◌, ◌↔◌, ℕ, List, Option, Some, slice_get}
use Rattle.uc_topology.specs.Stated.{Machine}
use Rattle.status_rule.specs.declared.status.Status.{Status}
use Rattle.status_rule.specs.declared.status.Status.TheVariants.{Short, Panicked}
use Rattle.read_model.specs.Reads.{Read}
use Rattle.rendezvous_model.specs.Verdict.{IsLowest, halted_at}
use Rattle.rendezvous_rule.specs.Runs.{RunOf}
use Rattle.session_text.specs.declared.answers.CommandAnswer.{CommandAnswer}
use Rattle.session_text.specs.declared.answers.CommandAnswer.TheVariants.{Done, Load}
use Rattle.session_text.specs.declared.answers.LoadAnswer.TheVariants as load
use Rattle.session_steps.specs.Did.{Did}
use Rattle.tool_text.specs.Words.{Asked, PlayOf, GenOf}
use Rattle.tool_text.specs.Plays.{StatesMachine, PlaysScript, GenText}
use Rattle.tool_text.specs.Tool.{AskedText}

-- what one of the commands did
pub record OneDid (dids : List Did) (Is : Did → Type 0) : Type 0 where
  pub place : ℕ
  pub did : Did
  pub there : slice_get dids place ≡ Some did
  pub is : Is did

-- the answer gives the session a status of its own: a file that was not read or is refused, or a thread that halted
abbrev pub HasOwnStatus : CommandAnswer → Type 0
HasOwnStatus (Load (load.ReadFault file)) = Unit {0}
HasOwnStatus (Load (load.BadFile file fault)) = Unit {0}
HasOwnStatus (Load (load.Panicked t)) = Unit {0}
HasOwnStatus answer = ⊥

-- some command was not done, and none has a status of its own
pub record IsShort (dids : List Did) : Type 0 where
  pub some_not_done : OneDid dids (λ did. did.answer ≢ Done)
  pub none_of_its_own : OneDid dids (λ did. HasOwnStatus did.answer) → ⊥

-- the thread is the lowest that halted in a load
pub record HaltsIn (t : ℕ) (did : Did) : Type 0 where
  pub ran : RunOf
  pub is_ran : did.ran ≡ Some ran
  pub lowest : IsLowest ran.plan (halted_at ran.outcome) t

-- a text is that of a session in which the commands did this
abbrev pub IsSessionOf : Asked → List Read → Option ℕ → List ℕ → Status → List Did → Type 0
IsSessionOf (PlayOf topology script) reads files text status dids =
    (machine : Machine) × (behind : List Read) × StatesMachine topology machine reads behind
    × (plays : PlaysScript script machine behind files text status) × (dids ≡ plays.plays.dids)
IsSessionOf (GenOf number) reads files text status dids =
    (gen : GenText number reads files text status) × (dids ≡ gen.generated.plays.dids)
IsSessionOf line reads files text status dids = ⊥

pub record SomeSession (line : Asked) (reads : List Read) (files : Option ℕ) (text : List ℕ) (status : Status)
    (Is : List Did → Type 0) : Type 0 where
  pub dids : List Did
  pub is_session : IsSessionOf line reads files text status dids
  pub is : Is dids

-- a text for what a command line asks for, with each of these statuses exactly where it has its cause
pub record CausedText (line : Asked) (reads : List Read) (files : Option ℕ) (text : List ℕ) (status : Status)
    : Type 0 where
  pub is_text : AskedText line reads files text status
  pub short : (status ≡ Short) ↔ SomeSession line reads files text status IsShort
  pub panicked :
      (t : ℕ) →
      (status ≡ Panicked t) ↔ SomeSession line reads files text status (λ dids. OneDid dids (HaltsIn t))
