-- What the outside of a session means, and what a call on a session finds and leaves.
use Rattle.std.specs.Prelude.{ℕ, Bool, List}
use Rattle.read_model.specs.Reads.{Read, AreHeld}
use Rattle.rendezvous_rule.specs.Runs.{RunOf}
use Rattle.session_steps.specs.State.{State}

-- the outside of a session by its meanings: which bytes stand in a sink, and the count of the sink's faults; whether a
-- rendezvous lists its items; and what holds of the files that are read
pub record Outside (D : Type 0) : Type 1 where
  pub stands : D → List ℕ → Type 0
  pub faults : D → ℕ
  pub lists : Bool
  pub held : List Read → Type 0

-- what was read is what the files hold, where they tell
abbrev pub HeldWhere : Type 0 → (List ℕ → List ℕ) → List Read → Type 0
HeldWhere tells holds = λ reads. tells → AreHeld holds reads

-- around a session: the files' count of faults, the runs that the rendezvous has kept, and the sink
pub record Surroundings (D : Type 0) : Type 0 where
  pub files : ℕ
  pub runs : List RunOf
  pub sink : D

-- between two commands: the state that the session is in, and what is around it
pub record Situation (D : Type 0) : Type 0 where
  pub state : State
  pub files : ℕ
  pub runs : List RunOf
  pub sink : D

abbrev pub around : {D : Type 0} → Situation D → Surroundings D
around now = record { files = now.files; runs = now.runs; sink = now.sink }
