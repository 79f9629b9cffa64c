-- Which sessions can be done whose threads really run, where the files hold this: each command finds what it needs, in
-- whatever state those before it leave. No schedule is asked for.
use Rattle.std.specs.Prelude.{◌≡◌, ℕ, ◌≤◌, Bool, false, List, [], ◌∷◌, length, map, drop, All, Option, Some, None}
use Rattle.uc_topology.specs.Stated.{Machine}
use Rattle.tool_text.specs.entry_model.Reading.{Reading}
use Rattle.read_model.specs.Accepts.{IsMachine, AreAccepted}
use Rattle.read_model.specs.Reads.{AreHeld}
use Rattle.tool_text.specs.rendezvous_rule.Runs.{RunOf}
use Rattle.tool_text.specs.machine_steps.Puts.{Puts}
use Rattle.script_text.specs.declared.command.Command.{Command}
use Rattle.script_text.specs.declared.command.Command.TheVariants as command
use Rattle.script_text.specs.Stated.{Stated}
use Rattle.script_text.specs.Accepts.{IsScript}
use Rattle.session_text.specs.declared.answers.CommandAnswer.TheVariants.{Done}
use Rattle.tool_text.specs.session_steps.State.{Setting, State, opening_state, first_missing}
use Rattle.tool_text.specs.session_steps.Offers.{offer_of, AreLoadOffers, SomethingOffered}
use Rattle.tool_text.specs.session_steps.Did.{Did}
use Rattle.tool_text.specs.session_steps.Step.{SessionStep}
use Rattle.session_laws.specs.Lent.{AllPut}
use Rattle.tool_text.specs.Commands.{entries_of_all}
use Rattle.tool_text.specs.Plays.{limits_of, setting_of}
use Rattle.tool_text.specs.Words.{Asked, PlayOf}
use Rattle.tool_text.specs.Able as able

pub record CanLoad (setting : Setting) (state : State) (force : Bool) (names : List (List ℕ)) (holds : List ℕ → List ℕ)
    : Type 0 where
  -- the primary of each group that takes part and the lead of each core that does are up
  pub present : first_missing setting state ≡ None
  -- each file is accepted, something is offered, and its patches fit into the region
  pub readings : List Reading
  pub accepted : AreAccepted (map holds names) readings
  pub offers : List (Option ℕ)
  pub are_offers : AreLoadOffers setting state force (entries_of_all readings) offers
  pub something : SomethingOffered offers
  pub puts : Puts
  pub fit : AllPut setting state (entries_of_all readings) offers puts
  -- no group that is offered an entry refuses
  pub none_refuses : (g number : ℕ) → offer_of offers g ≡ Some number → state.hardware.refuses g ≡ false

abbrev pub CanDo : Setting → State → Command → (List ℕ → List ℕ) → Type 0
CanDo setting state (command.Load force names beats) holds = CanLoad setting state force names holds
CanDo setting state one holds = able.CanDo setting state one holds

-- the first command can be done, and the others can be from each state that it may leave
abbrev pub CanDoAll : Setting → State → List Command → (List ℕ → List ℕ) → Type 0
CanDoAll setting state [] holds = Unit {0}
CanDoAll setting state (one ∷ commands) holds =
    CanDo setting state one holds
    × ((did : Did) → SessionStep false setting state one did → AreHeld holds did.reads → did.answer ≡ Done →
    CanDoAll setting did.after commands holds)

-- What is asked for can be done: the files have a reading within their limits, the machine has few enough threads, and
-- each command finds what it needs.
abbrev pub CanBeDone : ℕ → Asked → (List ℕ → List ℕ) → Type 0
CanBeDone most (PlayOf topology script) holds =
    (machine : Machine) × IsMachine (holds topology) machine × (length machine.stated.threads ≤ most)
    × ((stated : Stated) × IsScript (limits_of machine) (holds script) stated
    × CanDoAll (setting_of machine stated) (opening_state (setting_of machine stated)) stated.commands holds)
CanBeDone most line holds = ⊥

-- no rendezvous is late that was kept since
abbrev pub AreInTime : List RunOf → List RunOf → Type 0
AreInTime before now = All (λ run. run.late ≡ false) (drop (length before) now)
