-- How many items that count a thread can still come to, at most, by where it stands. Either all items count that are no
-- waiting, no idling and no ordinary code, or those alone that nobody else sees. By the step table each step of a
-- thread that counts lowers its rank, no step raises it, and none touches that of another thread, whatever the words
-- hold.
use Rattle.std.specs.Prelude.{ℕ, ◌+◌, ◌*◌, ◌==◌, Bool, true, false, if◌then◌else◌, max, count_by, sum_by}
use Rattle.rendezvous_steps.specs.declared.steps.Kind.{Kind}
use Rattle.rendezvous_steps.specs.declared.steps.Kind.TheVariants.{Offline}
use Rattle.rendezvous_steps.specs.declared.steps.Phase.{Phase}
use Rattle.rendezvous_steps.specs.declared.steps.Phase.TheVariants.{Outside, Kicking, OfflineWait, Arriving, Deciding}
use Rattle.rendezvous_steps.specs.declared.steps.Phase.TheVariants.{Waiting, Reading, Beginning, Writing, Checking}
use Rattle.rendezvous_steps.specs.declared.steps.Phase.TheVariants.{Reporting, Freeing, SiblingWait, SiblingCheck}
use Rattle.rendezvous_steps.specs.declared.steps.Phase.TheVariants.{SiblingCopy, Withdrawing, Releasing, OfflineCount}
use Rattle.rendezvous_steps.specs.declared.steps.Phase.TheVariants.{OfflineHold, Leaving, Left, Halted, Withdrawn}
use Rattle.rendezvous_steps.specs.declared.steps.Phase.TheVariants.{Nothing}
use Rattle.rendezvous_steps.specs.declared.steps.Local.{Local}
use Rattle.rendezvous_steps.specs.declared.items.What.{What}
use Rattle.rendezvous_steps.specs.declared.items.What.TheVariants as what
use Rattle.rendezvous_steps.specs.Plan.{Plan, is_offline, is_primary, is_sibling, threads_from}

-- the thread came on: it neither waits nor idles, and runs no ordinary code
abbrev pub is_counted : What → Bool
is_counted what.Poll = false
is_counted what.Idle = false
is_counted what.Latched = false
is_counted what.Ordinary = false
is_counted item = true

-- n, where all items count, and not those alone that nobody else sees
abbrev pub others : Bool → ℕ → ℕ
others all n = if all then n else 0

-- what an item counts
abbrev pub weight : Bool → What → ℕ
weight all what.Inner = 1
weight all item = others all (if is_counted item then 1 else 0)

-- the Offline threads from k on, and the other threads of t's group from k on that take part
unfoldable pub offlines_left : Plan → ℕ → ℕ
offlines_left plan k = count_by (λ u. is_offline (plan.kind u)) (threads_from plan k)

unfoldable pub siblings_left : Plan → ℕ → ℕ → ℕ
siblings_left plan t k = count_by (is_sibling plan t) (threads_from plan k)

-- at the head of the go path, at that of the drop path, and before the decision between them
abbrev pub go_rank : Bool → Plan → ℕ → ℕ
go_rank all plan t =
    if is_primary plan t then 2 + others all 4 + siblings_left plan t 0 else 2 + others all 1

abbrev pub drop_rank : Bool → Plan → ℕ → ℕ
drop_rank all plan t = if t == 0 then 2 * offlines_left plan 0 + others all 1 else others all 1

abbrev pub path_rank : Bool → Plan → ℕ → ℕ
path_rank all plan t = max (go_rank all plan t) (drop_rank all plan t)

-- before a thread enters: thread 0 kicks the Offline threads and waits for them
abbrev pub outside_rank : Kind → Bool → Plan → ℕ → ℕ
outside_rank Offline all plan t = 1 + others all 3
outside_rank kind all plan t =
    (if t == 0 then 2 + others all (2 + offlines_left plan 0) else 1 + others all 2) + path_rank all plan t

abbrev pub rank_in : Bool → Plan → ℕ → ℕ → Phase → ℕ
rank_in all plan t at Outside = outside_rank (plan.kind t) all plan t
rank_in all plan t at Kicking = 2 + others all (2 + offlines_left plan (at + 1)) + path_rank all plan t
rank_in all plan t at OfflineWait = 2 + others all 1 + path_rank all plan t
rank_in all plan t at Arriving = 1 + others all 1 + path_rank all plan t
rank_in all plan t at Deciding = 1 + path_rank all plan t
rank_in all plan t at Waiting = 1 + path_rank all plan t
rank_in all plan t at Reading = 2 + others all 4 + siblings_left plan t 0
rank_in all plan t at Beginning = 1 + others all 4 + siblings_left plan t 0
rank_in all plan t at Writing = 1 + others all 3 + siblings_left plan t 0
rank_in all plan t at Checking = 1 + others all 2 + siblings_left plan t 0
rank_in all plan t at Reporting = others all 2 + siblings_left plan t 0
rank_in all plan t at Freeing = 1 + others all 1 + siblings_left plan t (at + 1)
rank_in all plan t at SiblingWait = 2 + others all 1
rank_in all plan t at SiblingCheck = 1 + others all 1
rank_in all plan t at SiblingCopy = 1 + others all 1
rank_in all plan t at Withdrawing = 2 + others all 1 + 2 * offlines_left plan (at + 1)
rank_in all plan t at Releasing = 1 + others all 1 + 2 * offlines_left plan (at + 1)
rank_in all plan t at OfflineCount = 1 + others all 2
rank_in all plan t at OfflineHold = 1 + others all 1
rank_in all plan t at Leaving = others all 1
rank_in all plan t at Left = 0
rank_in all plan t at Halted = 0
rank_in all plan t at Withdrawn = 0
rank_in all plan t at Nothing = 0

unfoldable pub rank : Bool → Plan → ℕ → Local → ℕ
rank all plan t local = rank_in all plan t local.at local.phase

-- of all threads together, where all items count
unfoldable pub all_ranks : Plan → (ℕ → Local) → ℕ
all_ranks plan locals = sum_by (λ t. rank true plan t (locals t)) (threads_from plan 0)
