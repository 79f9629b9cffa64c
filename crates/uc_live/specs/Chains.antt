-- Posts that workers step.
use Rattle.std.specs.Prelude.{◌≡◌, ◌+◌, ◌≤◌, IsTrue}
use Rattle.rendezvous_steps.specs.StepTable.{is_last}
use Rattle.ctl_table.specs.declared.bays.Bay.{Bay}
use Rattle.ctl_table.specs.declared.posts.Post.{Post}
use Rattle.ctl_table.specs.Posts.{plan_in, thread_of, phase_of, given_by, joined_by, IsOf}

-- a post that was stepped
pub record Stays (before after' : Post) : Type 0 where
  pub thread : thread_of after' ≡ thread_of before
  pub given : given_by after' ≡ given_by before
  pub joined : joined_by after' ≡ joined_by before

-- thread 0's post, which has joined none yet
pub record Begun (bay : Bay) (zero : Post) : Type 0 where
  pub ours : IsOf bay zero
  pub first : thread_of zero ≡ 0
  pub joined : joined_by zero ≡ 0
  pub room : given_by zero + 1 ≤ (plan_in bay).threads
  pub few : (plan_in bay).threads ≤ 32

-- thread 0's post at the end, which has joined all that were given after `zero`
pub record Ended (bay : Bay) (zero after' : Post) : Type 0 where
  pub ours : IsOf bay after'
  pub first : thread_of after' ≡ 0
  pub joined : joined_by after' + given_by zero + 1 ≡ (plan_in bay).threads
  pub ended : IsTrue (is_last (phase_of after'))
