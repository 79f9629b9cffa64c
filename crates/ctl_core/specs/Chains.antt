-- The tables of the threads that come next, seen as lists.
use Rattle.std.specs.Prelude.{◌≡◌, ℕ, ◌+◌, ◌<◌, ◌≤◌, List, length, Option, None}
use Rattle.std.specs.List.{slice_index_or}
use Rattle.rendezvous_steps.specs.Plan.{Plan, offline_count}
use Rattle.ctl_thread.specs.Links.{member_from, LinksMembers, LinksOffline}

pub record Tables : Type 0 where
  pub members : List (Option ℕ)
  pub offline : List (Option ℕ)
  pub offline_count : ℕ

-- the tables tell what is so of a plan
pub record Chained (plan : Plan) (tables : Tables) : Type 0 where
  pub members : LinksMembers plan tables.members
  pub offline : LinksOffline plan tables.offline
  pub counted : tables.offline_count ≡ offline_count plan

-- the threads from one on are linked, and the lowest of them in each group is known
pub record Linking (plan : Plan) (table heads : List (Option ℕ)) (from : ℕ) : Type 0 where
  pub threads : length table ≡ plan.threads
  pub groups : length heads ≡ plan.groups
  pub below : from ≤ plan.threads
  pub linked :
      (t : ℕ) → from ≤ t → t < plan.threads →
      slice_index_or table t None ≡ member_from plan (plan.group t) (t + 1)
  pub lowest : (g : ℕ) → g < plan.groups → slice_index_or heads g None ≡ member_from plan g from
