-- Each command can be done: whatever the files hold, there is something that it does.
use Rattle.std.specs.Prelude.{◌≡◌, ℕ, Bool, false, List, All}
use Rattle.uc_topology.specs.Stated.{IsPartition}
use Rattle.read_model.specs.Reads.{AreHeld}
use Rattle.rendezvous_rule.specs.Runs.{AlwaysRuns}
use Rattle.rendezvous_steps.specs.ItemText.{item_line}
use Rattle.script_text.specs.declared.command.Command.{Command}
use Rattle.session_steps.specs.State.{Setting, State}
use Rattle.session_steps.specs.Did.{Did}
use Rattle.session_steps.specs.Step.{SessionStep}
use Rattle.session_steps.specs.Session.{StepsFrom, all_reads, session_answer}
use Rattle.session_steps.specs.Played.{is_read_fault}
use Rattle.session_steps.specs.Whole.{is_unread}
use Rattle.session_laws.specs.Standing.{Standing, InRange}

-- something that a command does, where the files hold this and each can be read
pub record SomeStep
    (lists : Bool) (setting : Setting) (state : State) (one : Command) (holds : List ℕ → List ℕ)
    : Type 0 where
  pub did : Did
  pub step : SessionStep lists setting state one did
  pub held : AreHeld holds did.reads
  pub all_read : is_read_fault did.answer ≡ false

-- where every sound plan has a run, every command does something in every state that stands
abbrev pub StepsExist : Type 0
StepsExist =
    (lists : Bool) (setting : Setting) (state : State) (one : Command) (holds : List ℕ → List ℕ) →
    AlwaysRuns item_line lists →
    IsPartition setting.machine.stated → Standing setting state → SomeStep lists setting state one holds

-- what commands do, one after the other from a state on, where the files hold this and each can be read
pub record SomeSteps
    (lists : Bool) (setting : Setting) (state : State) (commands : List Command) (holds : List ℕ → List ℕ)
    : Type 0 where
  pub dids : List Did
  pub steps : StepsFrom lists setting state commands dids
  pub held : AreHeld holds (all_reads dids)
  pub all_read : is_unread (session_answer dids) ≡ false

-- so does each list of commands, from each state that stands on
abbrev pub SessionsExist : Type 0
SessionsExist =
    (lists : Bool) (setting : Setting) (state : State) (commands : List Command) (holds : List ℕ → List ℕ) →
    AlwaysRuns item_line lists →
    IsPartition setting.machine.stated →
    Standing setting state →
    All (λ one. InRange setting one) commands → SomeSteps lists setting state commands holds
