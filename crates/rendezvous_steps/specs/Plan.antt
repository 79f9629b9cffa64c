-- What a load sets out with. The tables are functions of thread and group numbers, which have a value past their end
-- too: no thread there takes part, and no group there has an offer or a primary that takes part.
use Rattle.std.specs.Prelude.{◌≡◌, ◌≢◌, ℕ, ◌-◌, ◌<◌, ◌≤◌, Bool, true, false, not, ◌&&◌, ◌==◌, List, Option, Some}
use Rattle.std.specs.Prelude.{count_by, unwrap_or}
use Rattle.std.specs.List.{find, range_with_len}
use Rattle.rendezvous_steps.specs.declared.steps.Kind.{Kind}
use Rattle.rendezvous_steps.specs.declared.steps.Kind.TheVariants.{Online, Offline, Absent}

pub record Plan : Type 0 where
  pub threads : ℕ
  pub groups : ℕ
  pub kind : ℕ → Kind
  pub group : ℕ → ℕ
  pub primary : ℕ → ℕ
  pub offer : ℕ → Option ℕ
  pub refuse : ℕ → Bool
  pub rev0 : ℕ → ℕ
  pub patience : ℕ

abbrev pub is_online : Kind → Bool
is_online Online = true
is_online kind = false

abbrev pub is_offline : Kind → Bool
is_offline Offline = true
is_offline kind = false

abbrev pub is_absent : Kind → Bool
is_absent Absent = true
is_absent kind = false

-- t is the primary of its group
abbrev pub is_primary : Plan → ℕ → Bool
is_primary plan t = t == plan.primary (plan.group t)

-- u is another thread of t's group, and takes part
abbrev pub is_sibling : Plan → ℕ → ℕ → Bool
is_sibling plan t u = (plan.group u == plan.group t) && not (u == t) && not (is_absent (plan.kind u))

-- the threads of the plan from one on, in ascending order
abbrev pub threads_from : Plan → ℕ → List ℕ
threads_from plan k = range_with_len k (plan.threads - k)

-- the first Offline thread from k on
unfoldable pub offline_from : Plan → ℕ → Option ℕ
offline_from plan k = find (λ u. is_offline (plan.kind u)) (threads_from plan k)

-- the first thread of t's group from k on that is not t and takes part
unfoldable pub sibling_from : Plan → ℕ → ℕ → Option ℕ
sibling_from plan t k = find (is_sibling plan t) (threads_from plan k)

-- how many threads are Online, and how many Offline
unfoldable pub online_count : Plan → ℕ
online_count plan = count_by (λ u. is_online (plan.kind u)) (threads_from plan 0)

unfoldable pub offline_count : Plan → ℕ
offline_count plan = count_by (λ u. is_offline (plan.kind u)) (threads_from plan 0)

-- the offer of a group; where there is none, which no step meets, its revision at the start
abbrev pub offer_or_rev0 : Plan → ℕ → ℕ
offer_or_rev0 plan g = unwrap_or (plan.offer g) (plan.rev0 g)

-- A plan that a load may run with.
pub record Sound (plan : Plan) : Type 0 where
  pub some_thread : 0 < plan.threads
  pub few_threads : plan.threads ≤ 256
  pub groups_in_range : (t : ℕ) → t < plan.threads → plan.group t < plan.groups
  pub primaries_in_range : (g : ℕ) → g < plan.groups → plan.primary g < plan.threads
  pub primary_is_one_of_its_group : (g : ℕ) → g < plan.groups → plan.group (plan.primary g) ≡ g
  pub primary_is_the_lowest : (t : ℕ) → t < plan.threads → plan.primary (plan.group t) ≤ t
  pub thread_0_is_online : plan.kind 0 ≡ Online
  -- a group that takes part has an Online primary, and only such a group has an offer
  pub present_primary :
      (t : ℕ) → t < plan.threads → plan.kind t ≢ Absent → plan.kind (plan.primary (plan.group t)) ≡ Online
  pub offer_to_present : (g o : ℕ) → g < plan.groups → plan.offer g ≡ Some o → plan.kind (plan.primary g) ≡ Online
  pub offer_is_greater : (g o : ℕ) → g < plan.groups → plan.offer g ≡ Some o → plan.rev0 g < o
