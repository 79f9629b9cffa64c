-- One command of a session, row by row. A row has the answers in the order in which they are given, and each answer its
-- condition and what the command did.
use Rattle.std.specs.Prelude.{◌≡◌, ℕ, suc, Bool, true, false, List, [], ◌∷◌, ◌++◌, length, Option, Some, None, Result}
use Rattle.std.specs.Prelude.{Ok, Err}
use Rattle.uc_bytes.specs.declared.causes.FileFault.{FileFault}
use Rattle.entry_model.specs.Reading.{Reading}
use Rattle.entry_model.specs.Entry.{Entry, entries_from}
use Rattle.read_model.specs.Reads.{Read, Reads, AllRead, NotRead, Refused}
use Rattle.report_text.specs.Offers.{AreOffers}
use Rattle.rendezvous_steps.specs.declared.ends.Beat.{Beat}
use Rattle.rendezvous_steps.specs.Plan.{Plan, Sound}
use Rattle.rendezvous_steps.specs.Padded.{Padded}
use Rattle.rendezvous_model.specs.Outcome.{Outcome}
use Rattle.rendezvous_model.specs.Verdict.{Verdict, LoadVerdict}
use Rattle.rendezvous_model.specs.Verdict as verdict
use Rattle.rendezvous_rule.specs.Ran.{Ran}
use Rattle.rendezvous_rule.specs.Runs.{RunOf}
use Rattle.rendezvous_steps.specs.ItemText.{item_line}
use Rattle.machine_steps.specs.declared.states.Power.TheVariants.{On}
use Rattle.machine_steps.specs.declared.answers.HotAnswer.{HotAnswer}
use Rattle.machine_steps.specs.declared.answers.HotAnswer.TheVariants.{Booted}
use Rattle.machine_steps.specs.Hardware.{Hardware, is_off, with_power, with_refusal}
use Rattle.machine_steps.specs.Calls as calls
use Rattle.machine_steps.specs.BringUps.{AllBrought, bring_up_each, bring_up_all, resume}
use Rattle.machine_steps.specs.Puts.{Puts, no_puts, put_offers, first_of, patch_at}
use Rattle.script_text.specs.declared.command.Command.{Command}
use Rattle.script_text.specs.declared.command.Command.TheVariants as command
use Rattle.session_text.specs.declared.answers.CommandAnswer.{CommandAnswer}
use Rattle.session_text.specs.declared.answers.CommandAnswer.TheVariants.{Done, Hot, Load}
use Rattle.session_text.specs.declared.answers.LoadAnswer.TheVariants as load
use Rattle.session_steps.specs.State.{Setting, State, machine_of, cached_patches, first_missing}
use Rattle.session_steps.specs.Offers.{bytes_at, offer_of, AreLoadOffers, NothingOffered, SomethingOffered}
use Rattle.session_steps.specs.Offers.{load_offers_text, group_of_core, plan_of}
use Rattle.session_steps.specs.Did.{Did, only, by_row, by_bring_ups, ups_text, results_text, loaded}

-- Files that are not all read and accepted.

-- the file at this place could not be read
pub record StopsUnread (state : State) (names : List (List ℕ)) (file : ℕ) (did : Did) : Type 0 where
  pub name : List ℕ
  pub come : Reads names did.reads (NotRead name)
  pub place : length did.reads ≡ file
  pub did_only : did ≡ only state did.reads (Load (load.ReadFault file))

-- the file at this place was read, and is refused
pub record StopsRefused (state : State) (names : List (List ℕ)) (file : ℕ) (fault : FileFault)
    (did : Did) : Type 0 where
  pub name : List ℕ
  pub come : Reads names did.reads (Refused name fault.offset fault.cause)
  pub place : length did.reads ≡ suc file
  pub did_only : did ≡ only state did.reads (Load (load.BadFile file fault))

-- all files were read and accepted, with these entries
pub record ReadAll (names : List (List ℕ)) (reads : List Read) (entries : List Entry) : Type 0 where
  pub readings : List Reading
  pub come : Reads names reads (AllRead readings)
  pub all : entries ≡ entries_from 0 readings

-- Boot.

-- each group caches its offer at its first revision, power is on, and every thread comes up in ascending order
abbrev pub booted_patches : Puts → List (Option ℕ) → ℕ → Option (List ℕ)
booted_patches puts offers g = patch_at puts.patches (first_of puts (offer_of offers g))

abbrev pub brought_at_boot : Setting → State → Puts → List (Option ℕ) → AllBrought
brought_at_boot setting state puts offers =
    bring_up_all (machine_of setting) (booted_patches puts offers) (with_power state.hardware On)

unfoldable pub booted : Setting → State → List Read → Puts → List (Option ℕ) → AllBrought → Did
booted setting state reads puts offers brought = record {
  reads = reads;
  shown = [];
  told = ups_text brought.ups;
  answer = Done;
  after = record {
    hardware = brought.after;
    patches = puts.patches;
    cached = λ g. first_of puts (offer_of offers g);
  };
  ran = None;
}

pub record Boots (setting : Setting) (state : State) (names : List (List ℕ)) (did : Did) : Type 0 where
  pub entries : List Entry
  pub read : ReadAll names did.reads entries
  pub offers : List (Option ℕ)
  pub are_offers : AreOffers setting.machine entries offers
  pub puts : Puts
  pub put : put_offers setting.blocks (bytes_at entries) (Ok (no_puts state.patches)) offers ≡ Ok puts
  pub does : did ≡ booted setting state did.reads puts offers (brought_at_boot setting state puts offers)

pub record BootIsFull (setting : Setting) (state : State) (names : List (List ℕ)) (needed : ℕ)
    (did : Did) : Type 0 where
  pub entries : List Entry
  pub read : ReadAll names did.reads entries
  pub offers : List (Option ℕ)
  pub are_offers : AreOffers setting.machine entries offers
  pub full : put_offers setting.blocks (bytes_at entries) (Ok (no_puts state.patches)) offers ≡ Err needed
  pub did_only : did ≡ only state did.reads (Load (load.PoolFull needed))

abbrev pub BootFiles : Setting → State → List (List ℕ) → Did → CommandAnswer → Type 0
BootFiles setting state names did (Load (load.ReadFault file)) = StopsUnread state names file did
BootFiles setting state names did (Load (load.BadFile file fault)) = StopsRefused state names file fault did
BootFiles setting state names did (Load (load.PoolFull needed)) = BootIsFull setting state names needed did
BootFiles setting state names did Done = Boots setting state names did
BootFiles setting state names did answer = ⊥

abbrev pub BootRow : Setting → State → List (List ℕ) → Did → CommandAnswer → Type 0
BootRow setting state names did (Hot Booted) =
    (is_off state.hardware.power ≡ false) × (did ≡ only state [] (Hot Booted))
BootRow setting state names did answer = (is_off state.hardware.power ≡ true) × BootFiles setting state names did answer

-- A load without a reboot.

pub record FindsNothing (setting : Setting) (state : State) (force : Bool) (names : List (List ℕ))
    (did : Did) : Type 0 where
  pub entries : List Entry
  pub read : ReadAll names did.reads entries
  pub offers : List (Option ℕ)
  pub are_offers : AreLoadOffers setting state force entries offers
  pub nothing : NothingOffered offers
  pub did_only : did ≡ only state did.reads (Load load.NotFound)

pub record LoadIsFull (setting : Setting) (state : State) (force : Bool) (names : List (List ℕ)) (needed : ℕ)
    (did : Did) : Type 0 where
  pub entries : List Entry
  pub read : ReadAll names did.reads entries
  pub offers : List (Option ℕ)
  pub are_offers : AreLoadOffers setting state force entries offers
  pub something : SomethingOffered offers
  pub full : put_offers setting.blocks (bytes_at entries) (Ok (no_puts state.patches)) offers ≡ Err needed
  pub did_only : did ≡ only state did.reads (Load (load.PoolFull needed))

abbrev pub answer_of : Verdict → CommandAnswer
answer_of verdict.Done = Done
answer_of (verdict.Panicked t) = Load (load.Panicked t)
answer_of (verdict.Unfinished t) = Load (load.Unfinished t)
answer_of (verdict.OfflineSilent kicks) = Load (load.OfflineSilent kicks)
answer_of (verdict.TimedOut t) = Load (load.TimedOut t)
answer_of (verdict.Failed t) = Load (load.Failed t)
answer_of (verdict.Incomplete t) = Load (load.Incomplete t)

unfoldable pub met : Setting → State → List Read → List Entry → Puts → List (Option ℕ) → Plan → List ℕ → RunOf →
    CommandAnswer → Did
met setting state reads entries puts offers plan items ran answer = record {
  reads = reads;
  shown = load_offers_text setting state entries offers ++ items;
  told = results_text setting state plan ran.outcome;
  answer = answer;
  after = loaded setting state puts offers plan ran.outcome;
  ran = Some ran;
}

abbrev pub run_of : Plan → Outcome → Bool → RunOf
run_of plan outcome late = record { plan = plan; outcome = outcome; late = late }

-- the threads meet for what is offered, and the answer is the verdict on what comes out
pub record Meets (lists : Bool) (setting : Setting) (state : State) (force : Bool) (names : List (List ℕ))
    (beats : List Beat) (did : Did) (answer : CommandAnswer) : Type 0 where
  pub entries : List Entry
  pub read : ReadAll names did.reads entries
  pub offers : List (Option ℕ)
  pub are_offers : AreLoadOffers setting state force entries offers
  pub something : SomethingOffered offers
  pub puts : Puts
  pub put : put_offers setting.blocks (bytes_at entries) (Ok (no_puts state.patches)) offers ≡ Ok puts
  pub sound : Sound (plan_of setting state puts offers)
  pub padded : Padded (plan_of setting state puts offers)
  pub items : List ℕ
  pub outcome : Outcome
  pub late : Bool
  pub ran : Ran item_line lists (plan_of setting state puts offers) beats items outcome late
  pub verdict : Verdict
  pub is_verdict : LoadVerdict (plan_of setting state puts offers) outcome verdict
  pub is_answer : answer ≡ answer_of verdict
  pub does :
      did
      ≡ met setting state did.reads entries puts offers (plan_of setting state puts offers) items
      (run_of (plan_of setting state puts offers) outcome late) answer

abbrev pub AllPresent : Setting → State → Type 0
AllPresent setting state = first_missing setting state ≡ None

abbrev pub LoadFiles : Bool → Setting → State → Bool → List (List ℕ) → List Beat → Did → CommandAnswer → Type 0
LoadFiles lists setting state force names beats did (Hot answer) = ⊥
LoadFiles lists setting state force names beats did (Load (load.ReadFault file)) = StopsUnread state names file did
LoadFiles lists setting state force names beats did (Load (load.BadFile file fault)) =
    StopsRefused state names file fault did
LoadFiles lists setting state force names beats did (Load load.NotFound) = FindsNothing setting state force names did
LoadFiles lists setting state force names beats did (Load (load.PoolFull needed)) =
    LoadIsFull setting state force names needed did
LoadFiles lists setting state force names beats did answer = Meets lists setting state force names beats did answer

abbrev pub LoadRow : Bool → Setting → State → Bool → List (List ℕ) → List Beat → Did → CommandAnswer → Type 0
LoadRow lists setting state force names beats did (Load (load.Busy t)) =
    (first_missing setting state ≡ Some t) × (did ≡ only state [] (Load (load.Busy t)))
LoadRow lists setting state force names beats did answer =
    AllPresent setting state × LoadFiles lists setting state force names beats did answer

-- The rows.

-- the one thread comes up, where the machine lets it
abbrev pub online_from : Setting → State → ℕ → Result Hardware HotAnswer → Result AllBrought HotAnswer
online_from setting state t (Ok hardware) =
    Ok (bring_up_each (machine_of setting) (cached_patches state) hardware (t ∷ []))
online_from setting state t (Err answer) = Err answer

abbrev pub online : Setting → State → ℕ → Result AllBrought HotAnswer
online setting state t = online_from setting state t (calls.may_come_up state.hardware t)

abbrev pub set_refusal : Setting → State → ℕ → Bool → Did
set_refusal setting state core on =
    by_row state (Ok (with_refusal state.hardware (group_of_core setting core) on))

abbrev pub SessionStep : Bool → Setting → State → Command → Did → Type 0
SessionStep lists setting state (command.Boot names) did = BootRow setting state names did did.answer
SessionStep lists setting state (command.Online t) did = did ≡ by_bring_ups state (online setting state t)
SessionStep lists setting state (command.Offline t) did = did ≡ by_row state (calls.soft_offline state.hardware t)
SessionStep lists setting state command.Suspend did =
    did ≡ by_row state (calls.suspend (machine_of setting) state.hardware)
SessionStep lists setting state command.Resume did =
    did ≡ by_bring_ups state (resume (machine_of setting) (cached_patches state) state.hardware)
SessionStep lists setting state (command.Refuse core) did = did ≡ set_refusal setting state core true
SessionStep lists setting state (command.Accept core) did = did ≡ set_refusal setting state core false
SessionStep lists setting state (command.Load force names beats) did =
    LoadRow lists setting state force names beats did did.answer
