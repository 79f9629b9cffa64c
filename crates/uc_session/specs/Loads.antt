-- A load, as far as its rendezvous.
use Rattle.std.specs.Prelude.{◌≡◌, ℕ, ◌<◌, Bool, List, length, All, Option, IfSome, Err}
use Rattle.session_steps.specs.read_model.Reads.{Read}
use Rattle.session_steps.specs.rendezvous_steps.declared.ends.Beat.{Beat}
use Rattle.session_steps.specs.rendezvous_steps.Padded.{Padded}
use Rattle.uc_catalog.specs.Contents.{Contents}
use Rattle.session_steps.specs.script_text.declared.command.Command.TheVariants as command
use Rattle.session_steps.specs.session_text.declared.answers.CommandAnswer.TheVariants.{Load}
use Rattle.session_steps.specs.session_text.declared.answers.LoadAnswer.{LoadAnswer}
use Rattle.session_steps.specs.session_text.declared.answers.LoadAnswer.TheVariants.{NotFound, PoolFull}
use Rattle.session_steps.specs.State.{Setting, State}
use Rattle.session_steps.specs.Offers.{AreLoadOffers, NothingOffered, SomethingOffered, plan_of as load_plan}
use Rattle.session_steps.specs.Did.{only}
use Rattle.session_steps.specs.Step.{SessionStep, AllPresent, ReadAll}
use Rattle.session_steps.specs.Played.{FileCause, is_read_fault}
use Rattle.session_laws.specs.Standing.{Standing}
use Rattle.ctl_words.specs.declared.plans.Plan.{Plan as Tables}
use Rattle.ctl_words.specs.Plans.{plan_of, IsSound}
use Rattle.session_parts.specs.Boots.{puts_of}
use Rattle.session_parts.specs.Loads.{IsPut}
use Rattle.session_parts.specs.declared.load_tables.LoadTables.{LoadTables}
use Rattle.patch_pool.specs.declared.pool.PatchId.{PatchId}
use Rattle.uc_session.specs.declared.setting_out.Stop.{Stop}
use Rattle.uc_session.specs.declared.setting_out.Stop.TheVariants.{Answer, NoMemory}
use Rattle.uc_session.specs.Acts.{Stage}

-- what a load sets out with: the entries that were read, the one that each group is offered, where its patch was put,
-- and the plan
pub record Ready : Type 0 where
  pub catalog : Contents
  pub offers : List (Option ℕ)
  pub places : List (Option PatchId)
  pub plan : Tables

abbrev pub ready_of : Contents → LoadTables → Ready
ready_of contents tables = record {
  catalog = contents;
  offers = tables.offers.items;
  places = tables.places.items;
  plan = tables.plan;
}

-- What is offered of the entries of a catalogue.

-- something is, and it was put, at these places; the plan is that of the load, and sound where all are present
pub record SetsOutFrom (setting : Setting) (force : Bool) (contents : Contents) (old new : State)
    (ready : Ready) : Type 0 where
  pub catalog : ready.catalog ≡ contents
  pub are_offers : AreLoadOffers setting old force contents.entries ready.offers
  pub something : SomethingOffered ready.offers
  pub within : All (λ offer. IfSome offer (λ number. number < length contents.entries)) ready.offers
  pub put : IsPut setting contents.entries ready.offers old new ready.places
  pub plan_is : plan_of ready.plan ≡ load_plan setting old put.puts ready.offers
  pub sound :
      (names : List (List ℕ)) (reads : List Read) →
      AllPresent setting old → ReadAll names reads contents.entries → IsSound ready.plan

-- nothing is
pub record FindsNothing (setting : Setting) (force : Bool) (contents : Contents) (old : State) : Type 0 where
  pub offers : List (Option ℕ)
  pub are_offers : AreLoadOffers setting old force contents.entries offers
  pub nothing : NothingOffered offers

-- something is, and it does not fit
pub record IsFull (setting : Setting) (force : Bool) (contents : Contents) (needed : ℕ) (old : State) : Type 0 where
  pub offers : List (Option ℕ)
  pub are_offers : AreLoadOffers setting old force contents.entries offers
  pub something : SomethingOffered offers
  pub full : puts_of setting old contents.entries offers ≡ Err needed

abbrev pub StopsFrom : Setting → Bool → Contents → State → Stop → Type 0
StopsFrom setting force contents old (Answer NotFound) = FindsNothing setting force contents old
StopsFrom setting force contents old (Answer (PoolFull needed)) = IsFull setting force contents needed old
StopsFrom setting force contents old stop = ⊥

-- The load of files.

-- all needed threads are present, all files were read, what is offered of them was put, and the plan is sound
pub record SetsOut (held : List Read → Type 0) (setting : Setting) (force : Bool) (names : List (List ℕ))
    (before now : Stage) (ready : Ready) : Type 0 where
  pub reads : List Read
  pub is_held : held reads
  pub still : now.files ≡ before.files
  pub standing : Standing setting before.state
  pub present : AllPresent setting before.state
  pub read : ReadAll names reads ready.catalog.entries
  pub from : SetsOutFrom setting force ready.catalog before.state now.state ready
  pub sound : IsSound ready.plan
  pub padded : Padded (plan_of ready.plan)

-- the answer is that of a load that does not come to its rendezvous, and the state is as it was
pub record Refuses (held : List Read → Type 0) (setting : Setting) (force : Bool) (names : List (List ℕ))
    (before now : Stage) (answer : LoadAnswer) : Type 0 where
  pub reads : List Read
  pub is_held : held reads
  pub step :
      (lists : Bool) (beats : List Beat) →
      SessionStep lists setting before.state (command.Load force names beats) (only before.state reads (Load answer))
  pub cause : FileCause (is_read_fault (Load answer)) before.files now.files
  pub same : now.state ≡ before.state

abbrev pub Stops : (List Read → Type 0) → Setting → Bool → List (List ℕ) → Stage → Stage → Stop → Type 0
Stops held setting force names before now (Answer answer) = Refuses held setting force names before now answer
Stops held setting force names before now NoMemory = (now.files ≡ before.files) × (now.state ≡ before.state)
