-- Which sessions can be done, where the files hold this: each command finds what it needs, in whatever state those
-- before it leave.
use Rattle.std.specs.Prelude.{◌≡◌, ℕ, ◌+◌, ◌*◌, ◌==◌, ◌≤◌, Bool, true, false}
use Rattle.std.specs.Prelude.{List, [], ◌∷◌, map, All, Option, Some, None}
use Rattle.entry_model.specs.Reading.{Reading}
use Rattle.read_model.specs.Accepts.{AreAccepted}
use Rattle.read_model.specs.Reads.{AreHeld}
use Rattle.report_text.specs.Offers.{AreOffers}
use Rattle.rendezvous_steps.specs.declared.ends.Beat.{Beat}
use Rattle.play_laws.specs.Stuck.{rounds_in}
use Rattle.play_laws.specs.Patient.{is_in_time}
use Rattle.machine_steps.specs.Hardware.{is_off, is_on, is_asleep, is_up}
use Rattle.machine_steps.specs.Puts.{Puts}
use Rattle.script_text.specs.declared.command.Command.{Command}
use Rattle.script_text.specs.declared.command.Command.TheVariants as command
use Rattle.session_text.specs.declared.answers.CommandAnswer.TheVariants.{Done}
use Rattle.session_steps.specs.State.{Setting, State, machine_of, opening_state, first_missing}
use Rattle.session_steps.specs.Offers.{offer_of, AreLoadOffers, SomethingOffered}
use Rattle.session_steps.specs.Did.{Did}
use Rattle.session_steps.specs.Step.{SessionStep}
use Rattle.session_laws.specs.Lent.{AllPut}
use Rattle.tool_text.specs.Commands.{entries_of_all}

-- each file is accepted, and the patches of what is offered fit into the region
pub record CanBoot (setting : Setting) (state : State) (names : List (List ℕ)) (holds : List ℕ → List ℕ) : Type 0 where
  pub off : is_off state.hardware.power ≡ true
  pub readings : List Reading
  pub accepted : AreAccepted (map holds names) readings
  pub offers : List (Option ℕ)
  pub are_offers : AreOffers setting.machine (entries_of_all readings) offers
  pub puts : Puts
  pub fit : AllPut setting state (entries_of_all readings) offers puts

pub record CanLoad (setting : Setting) (state : State) (force : Bool) (names : List (List ℕ)) (beats : List Beat)
    (holds : List ℕ → List ℕ) : Type 0 where
  -- the primary of each group that takes part and the lead of each core that does are up
  pub present : first_missing setting state ≡ None
  -- each file is accepted, something is offered, and its patches fit into the region
  pub readings : List Reading
  pub accepted : AreAccepted (map holds names) readings
  pub offers : List (Option ℕ)
  pub are_offers : AreLoadOffers setting state force (entries_of_all readings) offers
  pub something : SomethingOffered offers
  pub puts : Puts
  pub fit : AllPut setting state (entries_of_all readings) offers puts
  -- no group that is offered an entry refuses
  pub none_refuses : (g number : ℕ) → offer_of offers g ≡ Some number → state.hardware.refuses g ≡ false
  -- no thread runs out of patience in the schedule, and it has rounds enough
  pub in_time : All (λ beat. is_in_time beat ≡ true) beats
  pub enough : 20 * (machine_of setting).threads + 8 ≤ rounds_in beats

abbrev pub CanDo : Setting → State → Command → (List ℕ → List ℕ) → Type 0
CanDo setting state (command.Boot names) holds = CanBoot setting state names holds
CanDo setting state (command.Online t) holds =
    (is_on state.hardware.power ≡ true) × (is_up (state.hardware.thread t) ≡ false)
CanDo setting state (command.Offline t) holds =
    (is_on state.hardware.power ≡ true) × ((t == 0) ≡ false) × (is_up (state.hardware.thread t) ≡ true)
CanDo setting state command.Suspend holds = is_on state.hardware.power ≡ true
CanDo setting state command.Resume holds = is_asleep state.hardware.power ≡ true
CanDo setting state (command.Refuse core) holds = Unit {0}
CanDo setting state (command.Accept core) holds = Unit {0}
CanDo setting state (command.Load force names beats) holds = CanLoad setting state force names beats holds

-- the first command can be done, and the others can be from each state that it may leave
abbrev pub CanDoAll : Setting → State → List Command → (List ℕ → List ℕ) → Type 0
CanDoAll setting state [] holds = Unit {0}
CanDoAll setting state (one ∷ commands) holds =
    CanDo setting state one holds
    × ((did : Did) → SessionStep true setting state one did → AreHeld holds did.reads → did.answer ≡ Done →
    CanDoAll setting did.after commands holds)

abbrev pub CanBePlayed : Setting → List Command → (List ℕ → List ℕ) → Type 0
CanBePlayed setting commands holds = CanDoAll setting (opening_state setting) commands holds
