-- The model of a rendezvous: where each thread is, which threads were kicked, arrived and were freed, one stage for
-- all, and for each group a place and a revision. Its state has no word, no phase, no counter and no poll. Sets of
-- threads are tests on their numbers, and so is the decider, which is nobody or one thread.
use Rattle.std.specs.Prelude.{ℕ, Bool, true, false, ◌&&◌, not, ◌==◌, count_by}
use Rattle.rendezvous_steps.specs.declared.steps.Kind.{Kind}
use Rattle.rendezvous_steps.specs.declared.steps.Kind.TheVariants.{Absent as KindAbsent}
use Rattle.rendezvous_steps.specs.declared.steps.ThreadResult.{ThreadResult}
use Rattle.rendezvous_steps.specs.Plan.{Plan, is_online, is_offline, threads_from}

-- where a thread is: it has not entered the handler, is in it, left with a result, halted in it, was withdrawn before
-- it came, or takes no part
pub data Place : Type 0 where
  Out : Place
  In : Place
  Left : ThreadResult → Place
  Halted : Place
  Withdrawn : Place
  Absent : Place

-- what is decided: nothing yet, that the load goes on, that thread 0 gave up on the kicked, or that a thread gave up on
-- those that had not arrived
pub data Stage : Type 0 where
  Gathering : Stage
  Going : Stage
  DroppedByKick : Stage
  DroppedBy : ℕ → Stage

-- how far a group's write has come
pub data GroupPlace : Type 0 where
  Waiting : GroupPlace
  Writing : GroupPlace
  Written : GroupPlace
  Reported : ThreadResult → GroupPlace

-- how an item comes about
pub data Cause : Type 0 where
  Step : Cause
  Timeout : Cause
  Nmi : Cause
  Run : Cause

-- the thread does it by a step of its own, with or without patience left
abbrev pub is_own : Cause → Bool
is_own Step = true
is_own Timeout = true
is_own cause = false

pub record State : Type 0 where
  pub place : ℕ → Place
  pub kicked : ℕ → Bool
  pub arrived : ℕ → Bool
  pub freed : ℕ → Bool
  pub latched : ℕ → Bool
  pub stage : Stage
  pub is_decider : ℕ → Bool
  pub group : ℕ → GroupPlace
  pub revision : ℕ → ℕ

-- the empty set, and the set of one thread
abbrev pub nobody : ℕ → Bool
nobody u = false

abbrev pub only : ℕ → ℕ → Bool
only t u = u == t

-- it is in the handler, and has not halted
abbrev pub is_held : Place → Bool
is_held In = true
is_held place = false

-- it is in the handler for good
abbrev pub is_halted : Place → Bool
is_halted Halted = true
is_halted place = false

abbrev pub is_out : Place → Bool
is_out Out = true
is_out place = false

abbrev pub is_withdrawn : Place → Bool
is_withdrawn Withdrawn = true
is_withdrawn place = false

abbrev pub has_left : Place → Bool
has_left (Left result) = true
has_left place = false

-- it has not come to an end
abbrev pub is_unfinished : Place → Bool
is_unfinished Out = true
is_unfinished In = true
is_unfinished place = false

abbrev pub is_gathering : Stage → Bool
is_gathering Gathering = true
is_gathering stage = false

abbrev pub is_going : Stage → Bool
is_going Going = true
is_going stage = false

abbrev pub is_dropped : Stage → Bool
is_dropped Gathering = false
is_dropped Going = false
is_dropped DroppedByKick = true
is_dropped (DroppedBy t) = true

-- how many Online threads are not in a set of those that arrived, and how many Offline threads are
unfoldable pub still_awaited : Plan → (ℕ → Bool) → ℕ
still_awaited plan arrived =
    count_by (λ u. is_online (plan.kind u) && not (arrived u)) (threads_from plan 0)

unfoldable pub offline_arrived : Plan → (ℕ → Bool) → ℕ
offline_arrived plan arrived =
    count_by (λ u. is_offline (plan.kind u) && arrived u) (threads_from plan 0)

-- how many threads are Out or In
unfoldable pub unfinished_count : Plan → State → ℕ
unfinished_count plan state = count_by (λ u. is_unfinished (state.place u)) (threads_from plan 0)

abbrev pub opening_place : Kind → Place
opening_place KindAbsent = Absent
opening_place kind = Out

-- all threads are outside, nobody was kicked, arrived, was freed or decides, and every group has its first revision
abbrev pub opening_state : Plan → State
opening_state plan =
    record {
      place = λ u. opening_place (plan.kind u);
      kicked = nobody;
      arrived = nobody;
      freed = nobody;
      latched = nobody;
      stage = Gathering;
      is_decider = nobody;
      group = λ g. Waiting;
      revision = plan.rev0;
    }
