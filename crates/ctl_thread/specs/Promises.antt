-- What the table promises, in the words of a load.
use Rattle.std.specs.Prelude.{ℕ, ◌+◌, ◌==◌, ◌&&◌, ◌||◌, Bool, true, false}
use Rattle.rendezvous_steps.specs.declared.steps.Phase.{Phase}
use Rattle.rendezvous_steps.specs.declared.steps.Phase.TheVariants.{Outside, Kicking, OfflineWait, Arriving, Deciding}
use Rattle.rendezvous_steps.specs.declared.steps.Phase.TheVariants.{Waiting, Reading, Beginning, Writing, Checking}
use Rattle.rendezvous_steps.specs.declared.steps.Phase.TheVariants.{Reporting, Freeing, SiblingWait, SiblingCheck}
use Rattle.rendezvous_steps.specs.declared.steps.Phase.TheVariants.{SiblingCopy, Withdrawing, Releasing, Leaving}
use Rattle.rendezvous_steps.specs.declared.operations.Word.{Word}
use Rattle.rendezvous_steps.specs.declared.operations.Word.TheVariants as word
use Rattle.rendezvous_steps.specs.declared.items.What.{What}
use Rattle.rendezvous_steps.specs.declared.items.What.TheVariants as what
use Rattle.rendezvous_steps.specs.Plan.{Plan}

-- the phases before the decision
abbrev pub is_before_decision : Phase → Bool
is_before_decision Outside = true
is_before_decision Kicking = true
is_before_decision OfflineWait = true
is_before_decision Arriving = true
is_before_decision Deciding = true
is_before_decision Waiting = true
is_before_decision phase = false

-- the phases in which a group's primary reads, writes, reports and frees
abbrev pub is_of_primary : Phase → Bool
is_of_primary Reading = true
is_of_primary Beginning = true
is_of_primary Writing = true
is_of_primary Checking = true
is_of_primary Reporting = true
is_of_primary Freeing = true
is_of_primary phase = false

-- those, and the phases of a sibling that waits for its primary
abbrev pub is_after_go : Phase → Bool
is_after_go SiblingWait = true
is_after_go SiblingCheck = true
is_after_go SiblingCopy = true
is_after_go phase = is_of_primary phase

-- the phases on the way out
abbrev pub is_leaving : Phase → Bool
is_leaving Withdrawing = true
is_leaving Releasing = true
is_leaving Leaving = true
is_leaving phase = false

-- the words that a thread may touch: the counts and the decision, those of its own number and of its group, the control
-- word of a thread that it frees, and the kick of a thread that it kicks or whose kick it takes back
abbrev pub is_freed_by : Phase → Bool
is_freed_by Freeing = true
is_freed_by Releasing = true
is_freed_by phase = false

abbrev pub is_kicked_by : Phase → Bool
is_kicked_by Kicking = true
is_kicked_by Withdrawing = true
is_kicked_by phase = false

abbrev pub may_touch : Plan → ℕ → Phase → ℕ → Word → Bool
may_touch plan t phase at word.Arrive = true
may_touch plan t phase at word.OffIn = true
may_touch plan t phase at word.Decide = true
may_touch plan t phase at (word.Mode u) = u == t
may_touch plan t phase at (word.Ctrl u) = (u == t) || (is_freed_by phase && (u == at))
may_touch plan t phase at (word.Nmi u) = (u == t) || (is_kicked_by phase && (u == at))
may_touch plan t phase at (word.Rev g) = g == plan.group t
may_touch plan t phase at (word.Res g) = g == plan.group t

-- a fact for the decision, and a fact for a revision
abbrev pub OnDecide : Word → Type 0 → Type 0
OnDecide word.Decide P = P
OnDecide w P = Unit {0}

abbrev pub OnRevision : Word → Type 0 → Type 0
OnRevision (word.Rev g) P = P
OnRevision w P = Unit {0}

-- what t may make of a decision that is still 0
abbrev pub is_decision_of : ℕ → ℕ → Bool
is_decision_of t decide = (decide == 0) || (decide == 1) || (decide == 2) || (decide == 3 + t)

-- a thread gives up on others
abbrev pub gives_up : What → Bool
gives_up what.Drop = true
gives_up what.DropKick = true
gives_up what.Halt = true
gives_up item = false
