-- What a thread knows in each phase, one row a phase: of itself, and of the state that the threads' views make. Of that
-- state it knows only what is never taken back, so no step of another thread makes it false.
use Rattle.std.specs.Prelude.{◌≡◌, ◌≢◌, ℕ, ◌<◌, Bool, true, false, Option, Some, None, is_some, if◌then◌else◌}
use Rattle.rendezvous_steps.specs.declared.steps.Kind.{Kind}
use Rattle.rendezvous_steps.specs.declared.steps.Kind.TheVariants.{Online, Offline, Absent}
use Rattle.rendezvous_steps.specs.declared.steps.ThreadResult.{ThreadResult}
use Rattle.rendezvous_steps.specs.declared.steps.ThreadResult.TheVariants as results
use Rattle.rendezvous_steps.specs.declared.steps.Phase.{Phase}
use Rattle.rendezvous_steps.specs.declared.steps.Phase.TheVariants as phase
use Rattle.rendezvous_steps.specs.declared.steps.Local.{Local}
use Rattle.rendezvous_steps.specs.Plan.{Plan, is_primary, is_sibling, offline_count}
use Rattle.rendezvous_steps.specs.StepTable.{number_of}
use Rattle.rendezvous_model.specs.Round as round
use Rattle.rendezvous_model.specs.Round.{Place, State, Going, is_dropped}
use Rattle.rendezvous_model.specs.RoundEnds.{okay_for}
use Rattle.rendezvous_rule.specs.View.{is_timeout}

-- What comes of a group after a go.

-- what its primary reports and leaves with: of no offer Current, else whether the group takes it
abbrev pub primary_result : Option ℕ → Bool → ThreadResult
primary_result None refuses = results.Current
primary_result (Some offer) true = results.Error
primary_result (Some offer) false = results.Updated

unfoldable pub report_of : Plan → ℕ → ThreadResult
report_of plan g = primary_result (plan.offer g) (plan.refuse g)

-- what an Online thread of it leaves with
unfoldable pub result_for : Plan → ℕ → ThreadResult
result_for plan t =
    if is_primary plan t then report_of plan (plan.group t) else okay_for (report_of plan (plan.group t))

-- Of the state.

-- an Offline thread was taken
abbrev pub has_come : Place → Bool
has_come round.Out = false
has_come round.Withdrawn = false
has_come round.Absent = false
has_come place = true

-- every Offline thread has arrived
abbrev pub AllHere : Plan → (ℕ → Bool) → Type 0
AllHere plan arrived = (k : ℕ) → plan.kind k ≡ Offline → arrived k ≡ true

-- What an Online thread t knows. at is where its loop is, mine the number of its result.

-- it is thread 0, and its loop is at an Offline thread
abbrev pub IsAtOffline : Plan → ℕ → ℕ → Type 0
IsAtOffline plan t at = (t ≡ 0) × (plan.kind at ≡ Offline)

-- a primary after a go
abbrev pub Leads : Plan → ℕ → State → Type 0
Leads plan t s = (is_primary plan t ≡ true) × (s.stage ≡ Going)

-- one whose group has an offer
abbrev pub LeadsAWrite : Plan → ℕ → State → Type 0
LeadsAWrite plan t s = (is_primary plan t ≡ true) × (s.stage ≡ Going) × (is_some (plan.offer (plan.group t)) ≡ true)

-- one that has its group's result
abbrev pub HasResult : Plan → ℕ → ℕ → State → Type 0
HasResult plan t mine s =
    (is_primary plan t ≡ true) × (s.stage ≡ Going) × (mine ≡ number_of (report_of plan (plan.group t)))

-- one that frees the thread that its loop is at
abbrev pub FreesAt : Plan → ℕ → ℕ → ℕ → State → Type 0
FreesAt plan t at mine s = HasResult plan t mine s × (is_sibling plan t at ≡ true)

-- a sibling after a go
abbrev pub Follows : Plan → ℕ → State → Type 0
Follows plan t s = (is_primary plan t ≡ false) × (s.stage ≡ Going)

-- one that was told that its group has the offer, or that it has not
abbrev pub ToldApply : Plan → ℕ → State → Type 0
ToldApply plan t s = Follows plan t s × (s.freed t ≡ true) × (report_of plan (plan.group t) ≡ results.Updated)

abbrev pub ToldDone : Plan → ℕ → State → Type 0
ToldDone plan t s = Follows plan t s × (s.freed t ≡ true) × (report_of plan (plan.group t) ≢ results.Updated)

-- thread 0 after a drop, which takes back the kick of an Offline thread
abbrev pub TakesBack : Plan → ℕ → ℕ → ℕ → State → Type 0
TakesBack plan t at mine s =
    IsAtOffline plan t at × (is_dropped s.stage ≡ true) × (mine ≡ number_of results.Timeout)

-- or releases it, since it has come
abbrev pub Releases : Plan → ℕ → ℕ → ℕ → State → Type 0
Releases plan t at mine s = TakesBack plan t at mine s × (has_come (s.place at) ≡ true)

-- a thread that leaves, or has left: after a drop, or after a go with its result, and freed where it is no primary
abbrev pub Ends : Bool → Plan → ℕ → ℕ → State → Type 0
Ends true plan t mine s = is_dropped s.stage ≡ true
Ends false plan t mine s =
    (s.stage ≡ Going) × (mine ≡ number_of (result_for plan t)) × (is_primary plan t ≡ false → s.freed t ≡ true)

abbrev pub OnlineKnows : Phase → Plan → ℕ → ℕ → ℕ → State → Type 0
OnlineKnows phase.Outside plan t at mine s = Unit {0}
OnlineKnows phase.Kicking plan t at mine s = IsAtOffline plan t at
OnlineKnows phase.OfflineWait plan t at mine s = (t ≡ 0) × (0 < offline_count plan)
OnlineKnows phase.Arriving plan t at mine s = t ≡ 0 → AllHere plan s.arrived
OnlineKnows phase.Deciding plan t at mine s = s.stage ≢ Going
OnlineKnows phase.Waiting plan t at mine s = Unit {0}
OnlineKnows phase.Reading plan t at mine s = Leads plan t s
OnlineKnows phase.Beginning plan t at mine s = LeadsAWrite plan t s
OnlineKnows phase.Writing plan t at mine s = LeadsAWrite plan t s
OnlineKnows phase.Checking plan t at mine s = LeadsAWrite plan t s
OnlineKnows phase.Reporting plan t at mine s = HasResult plan t mine s
OnlineKnows phase.Freeing plan t at mine s = FreesAt plan t at mine s
OnlineKnows phase.SiblingWait plan t at mine s = Follows plan t s
OnlineKnows phase.SiblingCheck plan t at mine s = ToldApply plan t s
OnlineKnows phase.SiblingCopy plan t at mine s = ToldDone plan t s
OnlineKnows phase.Withdrawing plan t at mine s = TakesBack plan t at mine s
OnlineKnows phase.Releasing plan t at mine s = Releases plan t at mine s
OnlineKnows phase.Leaving plan t at mine s = Ends (is_timeout mine) plan t mine s
OnlineKnows phase.Left plan t at mine s = Ends (is_timeout mine) plan t mine s
OnlineKnows phase.Halted plan t at mine s = Follows plan t s
OnlineKnows here plan t at mine s = ⊥

-- What an Offline thread t knows.

-- it was kicked, and will leave with its result
abbrev pub Came : ℕ → ℕ → State → Type 0
Came t mine s = (s.kicked t ≡ true) × (mine ≡ number_of results.Offline)

abbrev pub CameAndFreed : ℕ → ℕ → State → Type 0
CameAndFreed t mine s = Came t mine s × (s.freed t ≡ true)

abbrev pub OfflineKnows : Phase → ℕ → ℕ → State → Type 0
OfflineKnows phase.Outside t mine s = mine ≡ number_of results.Offline
OfflineKnows phase.OfflineCount t mine s = Came t mine s
OfflineKnows phase.OfflineHold t mine s = Came t mine s
OfflineKnows phase.Leaving t mine s = CameAndFreed t mine s
OfflineKnows phase.Left t mine s = CameAndFreed t mine s
OfflineKnows phase.Halted t mine s = Came t mine s
OfflineKnows phase.Withdrawn t mine s = (s.place t ≡ round.Withdrawn) × (mine ≡ number_of results.Offline)
OfflineKnows here t mine s = ⊥

-- What a thread of any kind knows.
abbrev pub Knows : Kind → Plan → ℕ → Local → State → Type 0
Knows Online plan t local s = OnlineKnows local.phase plan t local.at local.mine s
Knows Offline plan t local s = OfflineKnows local.phase t local.mine s
Knows Absent plan t local s = local.phase ≡ phase.Nothing
