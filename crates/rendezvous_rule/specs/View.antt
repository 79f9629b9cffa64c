-- What the words and the other threads see of a thread, by its phase: its view. Everything else that it knows is its
-- own. Each part has a row for every phase in which it tells something, and one for all others.
use Rattle.std.specs.Prelude.{ℕ, Bool, true, false, ◌&&◌, ◌||◌, not, ◌==◌, nat_lt, if◌then◌else◌}
use Rattle.rendezvous_steps.specs.declared.steps.Phase.{Phase}
use Rattle.rendezvous_steps.specs.declared.steps.Phase.TheVariants as phase
use Rattle.rendezvous_steps.specs.declared.steps.ThreadResult.TheVariants as results
use Rattle.rendezvous_steps.specs.declared.steps.Local.{Local}
use Rattle.rendezvous_steps.specs.Plan.{Plan, is_offline, is_primary, is_sibling}
use Rattle.rendezvous_steps.specs.StepTable.{number_of, result_of}
use Rattle.rendezvous_model.specs.Round as round
use Rattle.rendezvous_model.specs.Round.{Place, GroupPlace}

-- the number of this result is that of Timeout: the thread leaves after a drop
abbrev pub is_timeout : ℕ → Bool
is_timeout mine = mine == number_of results.Timeout

-- where it is. A thread whose kick was taken back before it came is outside by itself
abbrev pub place_in : Phase → ℕ → Place
place_in phase.Outside mine = round.Out
place_in phase.Left mine = round.Left (result_of mine)
place_in phase.Halted mine = round.Halted
place_in phase.Withdrawn mine = round.Out
place_in phase.Nothing mine = round.Absent
place_in at mine = round.In

-- it has arrived. On the drop path the phase of thread 0 does not tell, so there the answer is given from outside
abbrev pub arrived_in : Phase → ℕ → Bool → Bool
arrived_in phase.Outside mine given = false
arrived_in phase.Kicking mine given = false
arrived_in phase.OfflineWait mine given = false
arrived_in phase.Arriving mine given = false
arrived_in phase.OfflineCount mine given = false
arrived_in phase.Withdrawn mine given = false
arrived_in phase.Nothing mine given = false
arrived_in phase.Withdrawing mine given = given
arrived_in phase.Releasing mine given = given
arrived_in phase.Leaving mine given = if is_timeout mine then given else true
arrived_in phase.Left mine given = if is_timeout mine then given else true
arrived_in at mine given = true

abbrev pub decides_in : Phase → Bool
decides_in phase.Deciding = true
decides_in at = false

-- how far the write of its group has come, where it is the primary. It reports Current where nothing was there to write
abbrev pub write_in : Phase → ℕ → GroupPlace
write_in phase.Writing mine = round.Writing
write_in phase.Checking mine = round.Written
write_in phase.Reporting mine = if mine == number_of results.Current then round.Waiting else round.Written
write_in phase.Freeing mine = round.Reported (result_of mine)
write_in phase.Leaving mine = if is_timeout mine then round.Waiting else round.Reported (result_of mine)
write_in phase.Left mine = if is_timeout mine then round.Waiting else round.Reported (result_of mine)
write_in at mine = round.Waiting

-- its loops are past thread u, where at is the thread that they are at: as primary over its siblings,
abbrev pub frees_in : Phase → ℕ → ℕ → ℕ → Bool
frees_in phase.Freeing at mine u = nat_lt u at
frees_in phase.Leaving at mine u = not (is_timeout mine)
frees_in phase.Left at mine u = not (is_timeout mine)
frees_in here at mine u = false

-- as thread 0 over the Offline threads, to kick them,
abbrev pub kicks_in : Phase → ℕ → ℕ → Bool
kicks_in phase.Outside at u = false
kicks_in phase.Kicking at u = nat_lt u at
kicks_in here at u = true

-- and after a drop to take back each kick, or release the thread that came
abbrev pub settles_in : Phase → ℕ → ℕ → ℕ → Bool
settles_in phase.Withdrawing at mine u = nat_lt u at
settles_in phase.Releasing at mine u = nat_lt u at
settles_in phase.Leaving at mine u = is_timeout mine
settles_in phase.Left at mine u = is_timeout mine
settles_in here at mine u = false

pub record View : Type 0 where
  pub place : Place
  pub arrived : Bool
  pub deciding : Bool
  -- of a primary: its group's write, and the others of its group that it is done with
  pub write : GroupPlace
  pub frees : ℕ → Bool
  -- of thread 0: the Offline threads that it has kicked, and those that it is done with after a drop
  pub kicks : ℕ → Bool
  pub settles : ℕ → Bool

-- The view of thread t. Whether thread 0 has arrived is given, for when it is on the drop path.
abbrev pub view : Plan → ℕ → Bool → Local → View
view plan t first local =
    record {
      place = place_in local.phase local.mine;
      arrived = arrived_in local.phase local.mine (not (t == 0) || first);
      deciding = decides_in local.phase;
      write = if is_primary plan t then write_in local.phase local.mine else round.Waiting;
      frees = λ u. is_primary plan t && (is_sibling plan t u && frees_in local.phase local.at local.mine u);
      kicks = λ k. (t == 0) && (is_offline (plan.kind k) && kicks_in local.phase local.at k);
      settles = λ k. (t == 0) && (is_offline (plan.kind k) && settles_in local.phase local.at local.mine k);
    }

-- The views of all threads, as a table for each part.
pub record Views : Type 0 where
  pub place : ℕ → Place
  pub arrived : ℕ → Bool
  pub deciding : ℕ → Bool
  pub write : ℕ → GroupPlace
  pub frees : ℕ → ℕ → Bool
  pub kicks : ℕ → ℕ → Bool
  pub settles : ℕ → ℕ → Bool

abbrev pub tables : (ℕ → View) → Views
tables of =
    record {
      place = λ t. (of t).place;
      arrived = λ t. (of t).arrived;
      deciding = λ t. (of t).deciding;
      write = λ t. (of t).write;
      frees = λ t. (of t).frees;
      kicks = λ t. (of t).kicks;
      settles = λ t. (of t).settles;
    }

unfoldable pub views : Plan → Bool → (ℕ → Local) → Views
views plan first locals = tables (λ t. view plan t first (locals t))
