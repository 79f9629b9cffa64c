-- Bays and posts as callers see them.
use Rattle.std.specs.Prelude.{◌≡◌, ℕ, ◌+◌, ◌<◌, ◌||◌, Bool, true, false, Some, IsTrue, []}
use Rattle.rendezvous_steps.specs.declared.steps.Phase.{Phase}
use Rattle.rendezvous_steps.specs.declared.steps.Phase.TheVariants.{OfflineWait, Waiting, SiblingWait, OfflineHold}
use Rattle.rendezvous_steps.specs.declared.steps.Local.{Local}
use Rattle.rendezvous_steps.specs.declared.steps.How.{How}
use Rattle.rendezvous_steps.specs.declared.operations.Op.{Op}
use Rattle.rendezvous_steps.specs.Plan.{Plan}
use Rattle.rendezvous_steps.specs.Words.{touched}
use Rattle.rendezvous_steps.specs.StepTable.{opening, operation}
use Rattle.rule_laws.specs.Kept.{is_step}
use Rattle.ctl_words.specs.declared.plans.Plan.{Plan as Tables}
use Rattle.ctl_words.specs.Plans.{plan_of}
use Rattle.ctl_words.specs.Places.{is_word}
use Rattle.atomic_table.specs.declared.shared.Seat.{Seat}
use Rattle.ctl_table.specs.declared.standings.Standing.{Standing}
use Rattle.ctl_table.specs.declared.standings.View.{View}
use Rattle.ctl_table.specs.declared.standings.View.TheVariants.{Sits}
use Rattle.ctl_table.specs.declared.bays.Bay.{Bay}
use Rattle.ctl_table.specs.declared.posts.Post.{Post}
use Rattle.ctl_table.specs.Standings.{one_more}

abbrev pub plan_in : Bay → Plan
plan_in bay = plan_of bay.plan.value

abbrev pub thread_of : Post → ℕ
thread_of post = post.thread

abbrev pub local_of : Post → Local
local_of post = post.local

abbrev pub phase_of : Post → Phase
phase_of post = post.local.phase

abbrev pub polls_of : Post → ℕ
polls_of post = post.local.polls

-- how many posts thread 0's has split off, and how many it has joined
abbrev pub given_by : Post → ℕ
given_by post = post.given

abbrev pub joined_by : Post → ℕ
joined_by post = post.joined

abbrev pub is_late : Post → Bool
is_late post = post.late

-- the phases in which a thread waits for others
abbrev pub is_waiting : Phase → Bool
is_waiting OfflineWait = true
is_waiting Waiting = true
is_waiting SiblingWait = true
is_waiting OfflineHold = true
is_waiting phase = false

abbrev pub standing_of : Tables → Post → Standing
standing_of plan post =
    record {
      plan = plan;
      thread = post.thread;
      local = post.local;
      given = post.given;
      joined = post.joined;
      late = post.late;
    }

-- the post is one of this bay's
pub record IsOf (bay : Bay) (post : Post) : Type 0 where
  pub same_table : post.seat.table_id ≡ bay.table.shared.table_id
  pub sits : post.seat.me ≡ (Sits (standing_of bay.plan.value post), [])
  pub thread_in_range : post.thread < bay.plan.value.threads
  pub at_in_range : post.local.at < bay.plan.value.threads

-- the post of this thread as it begins
pub record Opens (plan : Plan) (t : ℕ) (post : Post) : Type 0 where
  pub thread : thread_of post ≡ t
  pub local : local_of post ≡ opening plan t
  pub given : given_by post ≡ 0
  pub joined : joined_by post ≡ 0
  pub late : is_late post ≡ false

-- a post that has split off one more, and else is as it was
pub record HasGiven (before after' : Post) : Type 0 where
  pub given : given_by after' ≡ given_by before + 1
  pub thread : thread_of after' ≡ thread_of before
  pub local : local_of after' ≡ local_of before
  pub joined : joined_by after' ≡ joined_by before
  pub late : is_late after' ≡ is_late before

-- a post that has joined another, is late where that was, and else is as it was
pub record HasJoined (before other after' : Post) : Type 0 where
  pub joined : joined_by after' ≡ one_more (joined_by before)
  pub late : is_late after' ≡ (is_late before || is_late other)
  pub thread : thread_of after' ≡ thread_of before
  pub local : local_of after' ≡ local_of before
  pub given : given_by after' ≡ given_by before

-- the seat may do this operation, which is the one that the step table names for its thread
pub record MayTurn (bay : Bay) (h : How) (seat : Seat (Unit {0}) View) (op : Op) : Type 0 where
  pub same_table : seat.table_id ≡ bay.table.shared.table_id
  pub standing : Standing
  pub sits : seat.me ≡ (Sits standing, [])
  pub its_plan : standing.plan ≡ bay.plan.value
  pub steps : is_step h ≡ true
  pub operates : operation (plan_of bay.plan.value) standing.thread standing.local h ≡ Some op
  pub known : IsTrue (is_word (plan_of bay.plan.value) (touched op))
