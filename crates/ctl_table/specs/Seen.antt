-- What a step answers.
use Rattle.std.specs.Prelude.{◌≡◌, ℕ, Bool, false, ◌||◌, IsTrue}
use Rattle.rendezvous_steps.specs.declared.steps.How.{How}
use Rattle.rendezvous_steps.specs.declared.items.What.{What}
use Rattle.rendezvous_steps.specs.declared.items.What.TheVariants.{Poll, Idle}
use Rattle.rendezvous_steps.specs.Plan.{Plan}
use Rattle.rendezvous_steps.specs.StepTable.{after, is_last}
use Rattle.ctl_thread.specs.Promises.{gives_up}
use Rattle.ctl_table.specs.declared.posts.Post.{Post}
use Rattle.ctl_table.specs.declared.seen.Seen.{Seen}
use Rattle.ctl_table.specs.declared.seen.Seen.TheVariants.{Moved, NotYet, Finished}
use Rattle.ctl_table.specs.Standings.{makes_late}
use Rattle.ctl_table.specs.Posts.{thread_of, local_of, phase_of, given_by, joined_by, is_late}

-- a poll is not yet, and who idles has finished
abbrev pub seen_of : What → Seen
seen_of Poll = NotYet
seen_of Idle = Finished
seen_of item = Moved item

-- the thread gave up on others
abbrev pub gives_up_in : Seen → Bool
gives_up_in (Moved item) = gives_up item
gives_up_in seen = false

-- a step found this in the word that it touched, and went on by it
pub record Took (plan : Plan) (h : How) (before after' : Post) (seen : Seen) : Type 0 where
  pub found : ℕ
  pub local : local_of after' ≡ (after plan (thread_of before) (local_of before) h found).0
  pub item : seen ≡ seen_of (after plan (thread_of before) (local_of before) h found).1
  -- who has finished is in its last phase
  pub finished : seen ≡ Finished → IsTrue (is_last (phase_of after'))
  pub thread : thread_of after' ≡ thread_of before
  pub given : given_by after' ≡ given_by before
  pub joined : joined_by after' ≡ joined_by before
  pub late : is_late after' ≡ (is_late before || makes_late h)
