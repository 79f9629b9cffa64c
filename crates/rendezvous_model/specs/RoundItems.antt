-- The steps of the model up to the frees, item by item: the condition of each and its change. What the equation on the
-- state afterwards does not name stays as it was.
use Rattle.std.specs.Prelude.{◌≡◌, ◌≢◌, ◌⊎◌, ℕ, ◌<◌, Bool, true, false, ◌&&◌, ◌==◌, if◌then◌else◌, Option, Some, None}
use Rattle.std.specs.Prelude.{is_some}
use Rattle.rendezvous_steps.specs.declared.steps.Kind.{Kind}
use Rattle.rendezvous_steps.specs.declared.steps.Kind.TheVariants.{Online, Offline}
use Rattle.rendezvous_steps.specs.declared.steps.ThreadResult.{ThreadResult}
use Rattle.rendezvous_steps.specs.declared.steps.ThreadResult.TheVariants as results
use Rattle.rendezvous_steps.specs.Plan.{Plan, is_online, offline_count}
use Rattle.rendezvous_steps.specs.Events.{put}
use Rattle.rendezvous_model.specs.Round.{Out, In, Withdrawn, Stage, Gathering, Going, DroppedByKick, DroppedBy}
use Rattle.rendezvous_model.specs.Round.{GroupPlace, Waiting, Writing, Written, Reported, State, Cause, Timeout, Run}
use Rattle.rendezvous_model.specs.Round.{is_own, nobody, only, is_gathering, is_dropped, still_awaited}

-- It enters. An Offline thread does so only once it is kicked, and an NMI can bring it in.

abbrev pub may_enter : Kind → Cause → Bool → Bool
may_enter Online cause kicked = is_own cause
may_enter Offline Run kicked = false
may_enter Offline cause kicked = kicked
may_enter kind cause kicked = false

pub record Enters (plan : Plan) (t : ℕ) (cause : Cause) (before after : State) : Type 0 where
  pub is_out : before.place t ≡ Out
  pub may : may_enter (plan.kind t) cause (before.kicked t) ≡ true
  pub change : after ≡ record before { place = put before.place t In }

-- Thread 0 kicks an Offline thread.
pub record Kicks (plan : Plan) (t : ℕ) (k : ℕ) (before after : State) : Type 0 where
  pub by_zero : t ≡ 0
  pub is_in : before.place t ≡ In
  pub not_arrived : before.arrived t ≡ false
  pub of_offline : plan.kind k ≡ Offline
  pub not_kicked : before.kicked k ≡ false
  pub change : after ≡ record before { kicked = put before.kicked k true }

-- It arrives. The Online thread that arrives last, while the threads gather, is to decide.

-- the threads gather, t is Online, and no Online thread is awaited any more
abbrev pub arrives_last : Plan → ℕ → Stage → (ℕ → Bool) → Bool
arrives_last plan t stage arrived =
    is_gathering stage && is_online (plan.kind t) && (still_awaited plan arrived == 0)

abbrev pub decider_after : Plan → ℕ → State → (ℕ → Bool) → ℕ → Bool
decider_after plan t before arrived = if arrives_last plan t before.stage arrived then only t else before.is_decider

pub record Arrives (plan : Plan) (t : ℕ) (before after : State) : Type 0 where
  pub is_in : before.place t ≡ In
  pub not_arrived : before.arrived t ≡ false
  pub zero_after_offline : t ≡ 0 → (k : ℕ) → plan.kind k ≡ Offline → before.arrived k ≡ true
  pub change :
      let arrived = put before.arrived t true in
      after ≡ record before { arrived = arrived; is_decider = decider_after plan t before arrived }

-- The decider decides that the load goes on.
pub record Goes (t : ℕ) (before after : State) : Type 0 where
  pub gathering : before.stage ≡ Gathering
  pub is_in : before.place t ≡ In
  pub decides : before.is_decider t ≡ true
  pub change : after ≡ record before { stage = Going; is_decider = nobody }

-- An Online thread that has arrived, and is not to decide, gives up on the others.
pub record Drops (plan : Plan) (t : ℕ) (cause : Cause) (before after : State) : Type 0 where
  pub out_of_patience : cause ≡ Timeout
  pub gathering : before.stage ≡ Gathering
  pub is_online : plan.kind t ≡ Online
  pub is_in : before.place t ≡ In
  pub has_arrived : before.arrived t ≡ true
  pub decides_not : before.is_decider t ≡ false
  pub change : after ≡ record before { stage = DroppedBy t; is_decider = nobody }

-- Thread 0 gives up on the kicked threads before it arrives.
pub record DropsByKick (plan : Plan) (t : ℕ) (cause : Cause) (before after : State) : Type 0 where
  pub out_of_patience : cause ≡ Timeout
  pub gathering : before.stage ≡ Gathering
  pub by_zero : t ≡ 0
  pub is_in : before.place t ≡ In
  pub not_arrived : before.arrived t ≡ false
  pub all_kicked : (k : ℕ) → plan.kind k ≡ Offline → before.kicked k ≡ true
  pub one_kicked : 0 < offline_count plan
  pub change : after ≡ record before { stage = DroppedByKick }

-- After a drop thread 0 takes back the kick of a thread that has not come.
pub record Withdraws (t : ℕ) (k : ℕ) (before after : State) : Type 0 where
  pub dropped : is_dropped before.stage ≡ true
  pub by_zero : t ≡ 0
  pub is_in : before.place t ≡ In
  pub was_kicked : before.kicked k ≡ true
  pub is_out : before.place k ≡ Out
  pub change : after ≡ record before { place = put before.place k Withdrawn }

-- After a go a primary begins the write of its group.
pub record Begins (plan : Plan) (t : ℕ) (g : ℕ) (before after : State) : Type 0 where
  pub by_primary : t ≡ plan.primary g
  pub is_in : before.place t ≡ In
  pub going : before.stage ≡ Going
  pub waits : before.group g ≡ Waiting
  pub has_offer : is_some (plan.offer g) ≡ true
  pub change : after ≡ record before { group = put before.group g Writing }

-- It writes: the group has its offer then, or where it refuses its first revision.
pub record Writes (plan : Plan) (t : ℕ) (g : ℕ) (r : ℕ) (before after : State) : Type 0 where
  pub by_primary : t ≡ plan.primary g
  pub writing : before.group g ≡ Writing
  pub refused : plan.refuse g ≡ true → r ≡ plan.rev0 g
  pub taken : plan.refuse g ≡ false → plan.offer g ≡ Some r
  pub change : after ≡ record before { group = put before.group g Written; revision = put before.revision g r }

-- It reports: of a write Updated where the group has its offer now and else Error, and Current where there is no offer.

abbrev pub checked : Option ℕ → ℕ → ThreadResult
checked (Some offer) revision = if revision == offer then results.Updated else results.Error
checked None revision = results.Error

abbrev pub report_of : GroupPlace → Option ℕ → ℕ → Option ThreadResult
report_of Written offer revision = Some (checked offer revision)
report_of Waiting None revision = Some results.Current
report_of place offer revision = None

pub record Reports (plan : Plan) (t : ℕ) (g : ℕ) (x : ThreadResult) (before after : State) : Type 0 where
  pub by_primary : t ≡ plan.primary g
  pub is_in : before.place t ≡ In
  pub going : before.stage ≡ Going
  pub result : report_of (before.group g) (plan.offer g) (before.revision g) ≡ Some x
  pub change : after ≡ record before { group = put before.group g (Reported x) }

-- It frees another thread: a primary one of its group, after its report, or thread 0 an Offline one, after a drop.

pub record FreesSibling (plan : Plan) (t : ℕ) (u : ℕ) (before : State) : Type 0 where
  pub by_primary : t ≡ plan.primary (plan.group u)
  pub result : ThreadResult
  pub has_reported : before.group (plan.group u) ≡ Reported result

pub record FreesOffline (plan : Plan) (t : ℕ) (u : ℕ) (before : State) : Type 0 where
  pub by_zero : t ≡ 0
  pub is_in : before.place t ≡ In
  pub dropped : is_dropped before.stage ≡ true
  pub of_offline : plan.kind u ≡ Offline

pub record Frees (plan : Plan) (t : ℕ) (u : ℕ) (before after : State) : Type 0 where
  pub is_held : before.place u ≡ In
  pub not_freed : before.freed u ≡ false
  pub another : u ≢ t
  pub may : FreesSibling plan t u before ⊎ FreesOffline plan t u before
  pub change : after ≡ record before { freed = put before.freed u true }
