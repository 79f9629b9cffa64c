-- Tables of the threads of a plan that come next.
use Rattle.std.specs.Prelude.{◌≡◌, Bool, ℕ, ◌+◌, ◌&&◌, ◌==◌, not, List, Option, Some}
use Rattle.std.specs.List.{find, slice_get}
use Rattle.rendezvous_steps.specs.Plan.{Plan, is_absent, threads_from, offline_from, offline_count}
use Rattle.ctl_thread.specs.declared.links.Links.{Links}

-- u is of the group, and takes part
abbrev pub is_member : Plan → ℕ → ℕ → Bool
is_member plan g u = (plan.group u == g) && not (is_absent (plan.kind u))

-- the first thread of a group from k on that takes part
unfoldable pub member_from : Plan → ℕ → ℕ → Option ℕ
member_from plan g k = find (is_member plan g) (threads_from plan k)

-- each entry is the next thread of its own thread's group
pub record LinksMembers (plan : Plan) (table : List (Option ℕ)) : Type 0 where
  pub entry : (t : ℕ) (next : Option ℕ) → slice_get table t ≡ Some next → next ≡ member_from plan (plan.group t) (t + 1)

-- each entry is the first Offline thread from its own thread on
pub record LinksOffline (plan : Plan) (table : List (Option ℕ)) : Type 0 where
  pub entry : (t : ℕ) (next : Option ℕ) → slice_get table t ≡ Some next → next ≡ offline_from plan t

-- what the tables tell is so
pub record Linked (plan : Plan) (links : Links) : Type 0 where
  pub members : LinksMembers plan links.members.now
  pub offline : LinksOffline plan links.offline.now
  pub counted : (n : ℕ) → links.offline_count ≡ Some n → n ≡ offline_count plan
