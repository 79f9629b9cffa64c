-- What holds of every session, for every set of files, topology, script and order of the events that a script states:
--
--   each update offered to a core is an accepted entry of highest admissible revision for it; from its write's begin
--   until its primary's report no thread of that core runs ordinary code; no revision falls while power stays on; a
--   dropped rendezvous changes no revision; and a reported success names only processors that hold their offered
--   revision.
--
-- The definitions below say this part by part, of what a command did, of a session, and of a text that the program may
-- write. A core stands here for all cores that one write serves: those of its group.
use Rattle.std.specs.Prelude.{◌≡◌, ◌≢◌, ℕ, ◌<◌, ◌≤◌, Bool, true, false, Option, Some, None, option_map}
use Rattle.std.specs.Prelude.{List, [], ◌∷◌, ◌++◌, length, take, flat_map}
use Rattle.uc_topology.specs.Stated.{Machine, core_at, group_of}
use Rattle.status_rule.specs.declared.status.Status.{Status}
use Rattle.entry_model.specs.declared.facts.CoreFacts.{CoreFacts}
use Rattle.entry_model.specs.Reading.{Reading}
use Rattle.entry_model.specs.Selection.{IsBest}
use Rattle.read_model.specs.Accepts.{AreAccepted}
use Rattle.read_model.specs.Reads.{Read, files_of}
use Rattle.rendezvous_steps.specs.declared.items.Item.{Item}
use Rattle.rendezvous_steps.specs.declared.ends.Beat.{Beat}
use Rattle.rendezvous_steps.specs.Plan.{Plan}
use Rattle.rendezvous_model.specs.Round as round
use Rattle.rendezvous_model.specs.Run.{Run, FewInner, NeverFalls}
use Rattle.rendezvous_model.specs.Excluded.{Excluded}
use Rattle.rendezvous_model.specs.Safe.{Safe}
use Rattle.rendezvous_model.specs.Outcome.{Outcome, OutcomeShows}
use Rattle.rendezvous_model.specs.Verdict.{end_at}
use Rattle.rendezvous_rule.specs.Ran.{Unlisted, events_of}
use Rattle.rendezvous_rule.specs.Runs.{RunOf}
use Rattle.rendezvous_steps.specs.ItemText.{item_line}
use Rattle.script_text.specs.declared.command.Command.{Command}
use Rattle.script_text.specs.declared.command.Command.TheVariants as command
use Rattle.session_text.specs.declared.answers.CommandAnswer.TheVariants as answer
use Rattle.session_steps.specs.State.{Setting, State, machine_of, cached_patches, opening_state}
use Rattle.session_steps.specs.Offers.{entry_at, bytes_at, offer_of, group_of_core, load_offers_text}
use Rattle.session_steps.specs.Did.{Did, results_text}
use Rattle.command_laws.specs.Left.{has_succeeded, HoldsOffer}
use Rattle.tool_text.specs.Words.{Asked, SelectOf, PlayOf, GenOf}
use Rattle.tool_text.specs.Commands.{entries_of_all, IsSelection, SelectsFor}
use Rattle.tool_text.specs.Plays.{setting_of, StatesMachine, PlaysScript, GenText}
use Rattle.tool_text.specs.Tool.{AskedText}

-- ---- each update offered to a core is an accepted entry of highest admissible revision for it

-- a core's own facts, at a revision
abbrev pub core_facts : Machine → ℕ → ℕ → CoreFacts
core_facts machine core rev = record {
  vendor = machine.vendor;
  sig = (core_at machine.stated.cores core).facts.sig;
  flags = (core_at machine.stated.cores core).facts.flags;
  rev = rev;
}

-- the revision that the firmware loads into a core
abbrev pub first_revision : Machine → ℕ → ℕ
first_revision machine core = (core_at machine.stated.cores core).facts.rev

-- The files that were read are accepted, each and every one, and what a core is offered of all their entries, by the
-- offers of the groups, is admissible for it at its revision, and of the greatest revision of those that are.
pub record OffersTheBest
    (machine : Machine) (revision : ℕ → ℕ) (force : Bool) (reads : List Read) (offers : List (Option ℕ))
    : Type 0 where
  pub readings : List Reading
  pub accepted : AreAccepted (files_of reads) readings
  pub best :
      (core number : ℕ) → core < length machine.stated.cores →
      offer_of offers (group_of (core_at machine.stated.cores core)) ≡ Some number →
      IsBest (entries_of_all readings) (core_facts machine core (revision core)) force number

-- ---- from its write's begin until its primary's report no thread of that core runs ordinary code

-- The lines are those of items that answer the events of the schedule, from one state of the rendezvous to the next.
-- Over each front of the items, and so over those of each front of the lines, no thread runs ordinary code while its
-- group is written; each of the states is safe, and from each to the next no revision falls. The outcome is that of the
-- last.
pub record SafeItems (plan : Plan) (beats : List Beat) (lines : List ℕ) (outcome : Outcome) : Type 0 where
  pub items : List Item
  pub states : ℕ → round.State
  pub are_lines : lines ≡ flat_map item_line items
  pub run : Run plan (events_of plan beats) items states
  pub few_inner : FewInner plan items
  pub excluded : (k : ℕ) → Excluded plan (take k items)
  pub safe : (k : ℕ) → k ≤ length items → Safe plan (states k)
  pub never_falls : NeverFalls (length items) states
  pub comes_out : OutcomeShows plan outcome (states (length items))

-- Where a rendezvous lists its items, they are safe. Where it lists nothing, its outcome is one that a run may come to:
-- a group runs its offer after a go where it does not refuse, and what it ran before after a drop.
abbrev pub ShowsRun : Bool → RunOf → List Beat → List ℕ → Type 0
ShowsRun true ran beats lines = SafeItems ran.plan beats lines ran.outcome
ShowsRun false ran beats lines = Unlisted ran.plan lines ran.outcome ran.late

-- ---- what a load did in which the threads met, and what a boot did

pub record LoadHolds
    (lists : Bool) (setting : Setting) (before : State) (force : Bool) (beats : List Beat) (did : Did) (ran : RunOf)
    : Type 0 where
  -- what each core is offered, at the revision that it has
  pub offers : List (Option ℕ)
  pub offered :
      OffersTheBest setting.machine (λ core. before.hardware.rev (group_of_core setting core)) force did.reads offers
  -- a group is to come to a revision just where it is offered an entry, and then to the entry's
  pub to_come :
      (g : ℕ) →
      ran.plan.offer g
      ≡ option_map (λ number. (entry_at (entries_of_all offered.readings) number).facts.rev) (offer_of offers g)
  -- and where it does, it caches the entry's bytes
  pub cached :
      (g number : ℕ) → offer_of offers g ≡ Some number → ran.plan.offer g ≡ Some (did.after.hardware.rev g) →
      cached_patches did.after g ≡ Some (bytes_at (entries_of_all offered.readings) number)
  -- shown are the lines of the offers, and of the items where they are listed
  pub lines : List ℕ
  pub shown : did.shown ≡ load_offers_text setting before (entries_of_all offered.readings) offers ++ lines
  pub items : ShowsRun lists ran beats lines
  -- a dropped rendezvous changes no revision
  pub dropped : 2 ≤ ran.outcome.decide → (g : ℕ) → did.after.hardware.rev g ≡ before.hardware.rev g
  -- told are the results, and a thread that is told to have succeeded stands in a group that holds its offered revision
  pub told : did.told ≡ results_text setting before ran.plan ran.outcome
  pub succeeded :
      (t : ℕ) → has_succeeded (end_at ran.outcome t) ≡ true →
      HoldsOffer ran.plan did.after ((machine_of setting).group t)
  -- where the load is done, each group that was offered an entry holds its revision
  pub done :
      did.answer ≡ answer.Done → (g rev : ℕ) → ran.plan.offer g ≡ Some rev → did.after.hardware.rev g ≡ rev

pub record BootHolds (setting : Setting) (did : Did) : Type 0 where
  -- what each core is offered, at the revision that its firmware loads, without force
  pub offers : List (Option ℕ)
  pub offered : OffersTheBest setting.machine (first_revision setting.machine) false did.reads offers
  -- a group caches the bytes of the entry that it is offered, or nothing
  pub cached :
      (g number : ℕ) → offer_of offers g ≡ Some number →
      cached_patches did.after g ≡ Some (bytes_at (entries_of_all offered.readings) number)
  pub none_cached : (g : ℕ) → offer_of offers g ≡ None → cached_patches did.after g ≡ None

-- ---- a command, and a session

-- threads meet in a load alone; only a load and a boot offer anything
abbrev pub OffersHold : Bool → Setting → State → Command → Did → Type 0
OffersHold lists setting before (command.Load force names beats) did =
    (ran : RunOf) → did.ran ≡ Some ran → LoadHolds lists setting before force beats did ran
OffersHold lists setting before (command.Boot names) did =
    (did.ran ≡ None) × (did.answer ≡ answer.Done → BootHolds setting did)
OffersHold lists setting before one did = did.ran ≡ None

pub record CommandHolds (lists : Bool) (setting : Setting) (before : State) (one : Command) (did : Did) : Type 0 where
  pub offers : OffersHold lists setting before one did
  -- offers and items are shown only where threads met
  pub quiet : did.ran ≡ None → did.shown ≡ []
  -- no revision falls while power stays on: a suspend is what takes it away
  pub rises : one ≢ command.Suspend → (g : ℕ) → before.hardware.rev g ≤ did.after.hardware.rev g

-- each command of a session, from a state on
abbrev pub SessionHolds : Bool → Setting → State → List Command → List Did → Type 0
SessionHolds lists setting before (one ∷ commands) (did ∷ dids) =
    CommandHolds lists setting before one did × SessionHolds lists setting did.after commands dids
SessionHolds lists setting before commands dids = Unit {0}

-- ---- a text

-- whatever selection or session it is the text of, this holds of that
abbrev pub Headline : Asked → List Read → Option ℕ → List ℕ → Status → Type 0
Headline (SelectOf topology names) reads files text status =
    (selects : SelectsFor topology names reads files text status) (readings : List Reading) →
    AreAccepted (files_of selects.behind) readings → (selection : IsSelection selects.machine readings text) →
    OffersTheBest selects.machine (first_revision selects.machine) false selects.behind selection.offers
Headline (PlayOf topology script) reads files text status =
    (machine : Machine) (behind : List Read) → StatesMachine topology machine reads behind →
    (plays : PlaysScript script machine behind files text status) →
    SessionHolds true (setting_of machine plays.stated) (opening_state (setting_of machine plays.stated))
    plays.stated.commands plays.plays.dids
Headline (GenOf number) reads files text status =
    (gen : GenText number reads files text status) →
    SessionHolds true (setting_of gen.generated.machine gen.generated.stated)
    (opening_state (setting_of gen.generated.machine gen.generated.stated)) gen.generated.stated.commands
    gen.generated.plays.dids
Headline line reads files text status = Unit {0}

-- a text for what a command line asks for, of which this holds
pub record HoldingText (line : Asked) (reads : List Read) (files : Option ℕ) (text : List ℕ) (status : Status)
    : Type 0 where
  pub is_text : AskedText line reads files text status
  pub headline : Headline line reads files text status
