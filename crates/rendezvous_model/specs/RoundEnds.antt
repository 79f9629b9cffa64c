-- The steps of the model by which threads leave, halt, wait and run ordinary code: the condition of each and its
-- change.
use Rattle.std.specs.Prelude.{◌≡◌, ℕ, Bool, true, false, ◌&&◌, ◌||◌, not, ◌==◌, Option, Some, None}
use Rattle.rendezvous_steps.specs.declared.steps.Kind.{Kind}
use Rattle.rendezvous_steps.specs.declared.steps.Kind.TheVariants.{Online, Offline}
use Rattle.rendezvous_steps.specs.declared.steps.ThreadResult.{ThreadResult}
use Rattle.rendezvous_steps.specs.declared.steps.ThreadResult.TheVariants as results
use Rattle.rendezvous_steps.specs.Plan.{Plan, is_primary, is_sibling}
use Rattle.rendezvous_steps.specs.Events.{put}
use Rattle.rendezvous_model.specs.Round.{Place, Out, In, Left, Halted, Withdrawn, Absent, Stage, Gathering, Going}
use Rattle.rendezvous_model.specs.Round.{GroupPlace, Reported, State, Cause, Step, Timeout, Nmi, Run, is_out, is_halted}
use Rattle.rendezvous_model.specs.Round.{is_withdrawn, has_left, is_held, is_going, is_dropped}

-- It leaves, in one of four ways.

-- a primary after a go, with what it reported, once each other thread of its group that takes part is freed or halted
pub record LeavesAsPrimary (plan : Plan) (t : ℕ) (x : ThreadResult) (before : State) : Type 0 where
  pub is_primary : is_primary plan t ≡ true
  pub going : before.stage ≡ Going
  pub result : before.group (plan.group t) ≡ Reported x
  pub others_done : (u : ℕ) → is_sibling plan t u ≡ true → (before.freed u || is_halted (before.place u)) ≡ true

-- what a sibling leaves with: Okay where its group reported Updated, else what it reported
abbrev pub okay_for : ThreadResult → ThreadResult
okay_for results.Updated = results.Okay
okay_for result = result

abbrev pub passed_on : GroupPlace → Option ThreadResult
passed_on (Reported result) = Some (okay_for result)
passed_on place = None

-- another Online thread after a go, once it is freed
pub record LeavesAsSibling (plan : Plan) (t : ℕ) (x : ThreadResult) (before : State) : Type 0 where
  pub is_online : plan.kind t ≡ Online
  pub is_no_primary : is_primary plan t ≡ false
  pub going : before.stage ≡ Going
  pub is_freed : before.freed t ≡ true
  pub result : passed_on (before.group (plan.group t)) ≡ Some x

-- an Online thread after a drop, thread 0 once it is done with each Offline thread
pub record LeavesAfterDrop (plan : Plan) (t : ℕ) (x : ThreadResult) (before : State) : Type 0 where
  pub is_online : plan.kind t ≡ Online
  pub dropped : is_dropped before.stage ≡ true
  pub has_arrived : (before.arrived t || (t == 0)) ≡ true
  pub zero_last :
      t ≡ 0 → (k : ℕ) → plan.kind k ≡ Offline →
      (before.freed k || is_halted (before.place k) || is_withdrawn (before.place k)) ≡ true
  pub result : x ≡ results.Timeout

-- an Offline thread, once it is freed
pub record LeavesOffline (plan : Plan) (t : ℕ) (x : ThreadResult) (before : State) : Type 0 where
  pub is_offline : plan.kind t ≡ Offline
  pub has_arrived : before.arrived t ≡ true
  pub is_freed : before.freed t ≡ true
  pub result : x ≡ results.Offline

pub data MayLeave (plan : Plan) (t : ℕ) (x : ThreadResult) (before : State) : Type 0 where
  as_primary : LeavesAsPrimary plan t x before → MayLeave plan t x before
  as_sibling : LeavesAsSibling plan t x before → MayLeave plan t x before
  after_drop : LeavesAfterDrop plan t x before → MayLeave plan t x before
  as_offline : LeavesOffline plan t x before → MayLeave plan t x before

pub record Leaves (plan : Plan) (t : ℕ) (x : ThreadResult) (before after : State) : Type 0 where
  pub is_in : before.place t ≡ In
  pub may : MayLeave plan t x before
  pub change : after ≡ record before { place = put before.place t (Left x) }

-- It halts, where it waited too long to be freed: an Offline thread, or after a go a sibling.

abbrev pub may_halt : Kind → Bool → Stage → Bool
may_halt Online primary stage = not primary && is_going stage
may_halt Offline primary stage = true
may_halt kind primary stage = false

pub record Halts (plan : Plan) (t : ℕ) (cause : Cause) (before after : State) : Type 0 where
  pub out_of_patience : cause ≡ Timeout
  pub is_in : before.place t ≡ In
  pub has_arrived : before.arrived t ≡ true
  pub not_freed : before.freed t ≡ false
  pub may : may_halt (plan.kind t) (is_primary plan t) before.stage ≡ true
  pub change : after ≡ record before { place = put before.place t Halted }

-- It waits, in one of five ways.

-- an Offline thread for its kick
pub record WaitsForKick (plan : Plan) (t : ℕ) (state : State) : Type 0 where
  pub is_offline : plan.kind t ≡ Offline
  pub is_out : state.place t ≡ Out
  pub not_kicked : state.kicked t ≡ false

-- thread 0, when it has kicked all, for an Offline thread
pub record WaitsForOffline (plan : Plan) (t : ℕ) (state : State) : Type 0 where
  pub by_zero : t ≡ 0
  pub is_in : state.place t ≡ In
  pub not_arrived : state.arrived t ≡ false
  pub all_kicked : (k : ℕ) → plan.kind k ≡ Offline → state.kicked k ≡ true
  pub missing : ℕ
  pub missing_is_offline : plan.kind missing ≡ Offline
  pub missing_has_not_arrived : state.arrived missing ≡ false

-- an Online thread that has arrived, and is not to decide, for the decision
pub record WaitsForDecision (plan : Plan) (t : ℕ) (state : State) : Type 0 where
  pub is_online : plan.kind t ≡ Online
  pub is_in : state.place t ≡ In
  pub has_arrived : state.arrived t ≡ true
  pub gathering : state.stage ≡ Gathering
  pub decides_not : state.is_decider t ≡ false

-- a sibling for its primary
pub record WaitsForPrimary (plan : Plan) (t : ℕ) (state : State) : Type 0 where
  pub is_online : plan.kind t ≡ Online
  pub is_in : state.place t ≡ In
  pub is_no_primary : is_primary plan t ≡ false
  pub going : state.stage ≡ Going
  pub not_freed : state.freed t ≡ false

-- an Offline thread that has arrived to be freed
pub record WaitsToBeFreed (plan : Plan) (t : ℕ) (state : State) : Type 0 where
  pub is_offline : plan.kind t ≡ Offline
  pub is_in : state.place t ≡ In
  pub has_arrived : state.arrived t ≡ true
  pub not_freed : state.freed t ≡ false

pub data MayWait (plan : Plan) (t : ℕ) (state : State) : Type 0 where
  for_kick : WaitsForKick plan t state → MayWait plan t state
  for_offline : WaitsForOffline plan t state → MayWait plan t state
  for_decision : WaitsForDecision plan t state → MayWait plan t state
  for_primary : WaitsForPrimary plan t state → MayWait plan t state
  to_be_freed : WaitsToBeFreed plan t state → MayWait plan t state

pub record Polls (plan : Plan) (t : ℕ) (before after : State) : Type 0 where
  pub may : MayWait plan t before
  pub change : after ≡ before

-- It does something inside that nobody else sees.
pub record StaysIn (t : ℕ) (before after : State) : Type 0 where
  pub is_in : before.place t ≡ In
  pub change : after ≡ before

-- It runs ordinary code: at an attempt or an NMI outside the handler, or where a latched NMI comes through.

abbrev pub is_free_to_run : Kind → Cause → Place → Bool → Bool
is_free_to_run Online Run place kicked = is_out place || has_left place
is_free_to_run Online Nmi place kicked = is_out place || has_left place
is_free_to_run Offline Nmi place kicked = (is_out place && not kicked) || is_withdrawn place || has_left place
is_free_to_run kind cause place kicked = false

abbrev pub comes_through : Cause → Place → Bool → Bool
comes_through Nmi place latched = false
comes_through cause place latched = has_left place && latched

pub record RunsOrdinary (plan : Plan) (t : ℕ) (cause : Cause) (before after : State) : Type 0 where
  pub may :
      (is_free_to_run (plan.kind t) cause (before.place t) (before.kicked t)
      || comes_through cause (before.place t) (before.latched t))
      ≡ true
  pub change : after ≡ record before { latched = put before.latched t false }

-- An NMI comes while it is in the handler, and waits.
pub record Latches (t : ℕ) (cause : Cause) (before after : State) : Type 0 where
  pub by_nmi : cause ≡ Nmi
  pub is_in : before.place t ≡ In
  pub change : after ≡ record before { latched = put before.latched t true }

-- It does nothing.

abbrev pub may_idle : Kind → Cause → Place → Bool → Bool
may_idle kind cause Halted latched = true
may_idle kind cause Absent latched = true
may_idle kind Step Withdrawn latched = true
may_idle kind Timeout Withdrawn latched = true
may_idle kind Step (Left x) latched = not latched
may_idle kind Timeout (Left x) latched = not latched
may_idle Offline Run place latched = not (is_held place) && not (has_left place && latched)
may_idle kind cause place latched = false

pub record Idles (plan : Plan) (t : ℕ) (cause : Cause) (before after : State) : Type 0 where
  pub may : may_idle (plan.kind t) cause (before.place t) (before.latched t) ≡ true
  pub change : after ≡ before
