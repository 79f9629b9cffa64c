-- The plan of a load that finds all threads that it needs, and offers something.
use Rattle.std.specs.Prelude.{◌≡◌, ℕ, Bool, List, Option, Ok}
use Rattle.uc_topology.specs.Stated.{IsPartition}
use Rattle.entry_model.specs.Entry.{Entry}
use Rattle.read_model.specs.Reads.{Read}
use Rattle.rendezvous_steps.specs.Plan.{Sound}
use Rattle.rendezvous_steps.specs.Padded.{Padded}
use Rattle.machine_steps.specs.Puts.{Puts, no_puts, put_offers}
use Rattle.session_steps.specs.State.{Setting, State}
use Rattle.session_steps.specs.Offers.{bytes_at, AreLoadOffers, SomethingOffered, plan_of}
use Rattle.session_steps.specs.Step.{AllPresent, ReadAll}
use Rattle.session_laws.specs.Standing.{Standing}

-- a load that has come as far as its rendezvous: all needed threads are present, all files were read, some group is
-- offered an entry of them, and the patch of each offer was put into the region
pub record IsReady
    (setting : Setting) (state : State) (force : Bool) (names : List (List ℕ)) (reads : List Read)
    (entries : List Entry) (offers : List (Option ℕ)) (puts : Puts)
    : Type 0 where
  pub present : AllPresent setting state
  pub read : ReadAll names reads entries
  pub are_offers : AreLoadOffers setting state force entries offers
  pub something : SomethingOffered offers
  pub put : put_offers setting.blocks (bytes_at entries) (Ok (no_puts state.patches)) offers ≡ Ok puts

-- in a state that stands it sets out with a plan that a rendezvous may run with
abbrev pub PlansSound : Type 0
PlansSound =
    (setting : Setting) (state : State) (force : Bool) (names : List (List ℕ)) (reads : List Read) →
    (entries : List Entry) (offers : List (Option ℕ)) (puts : Puts) →
    IsPartition setting.machine.stated →
    Standing setting state →
    IsReady setting state force names reads entries offers puts →
    Sound (plan_of setting state puts offers) × Padded (plan_of setting state puts offers)
