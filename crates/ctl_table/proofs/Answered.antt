-- What a step answers.
use Rattle.std.proofs.Common.{◌≡◌, ℕ, false, IsTrue, refl}
use Rattle.std.proofs.lemmas.Bool.{false≢true}
use Rattle.rendezvous_steps.specs.declared.steps.Phase.{Phase}
use Rattle.rendezvous_steps.specs.declared.steps.Phase.TheVariants.{Outside, Kicking, OfflineWait, Arriving, Deciding, Waiting, Reading, Beginning, Writing, Checking, Reporting, Freeing, SiblingWait, SiblingCheck, SiblingCopy, Withdrawing, Releasing, OfflineCount, OfflineHold, Leaving, Left, Halted, Withdrawn, Nothing}
use Rattle.rendezvous_steps.specs.declared.steps.Local.{Local}
use Rattle.rendezvous_steps.specs.declared.steps.How.{How}
use Rattle.rendezvous_steps.specs.declared.items.What.{What}
use Rattle.rendezvous_steps.specs.declared.items.What.TheVariants as what
use Rattle.rendezvous_steps.specs.Plan.{Plan}
use Rattle.rendezvous_steps.specs.StepTable.{after, after_in, is_last}
use Rattle.ctl_thread.specs.Promises.{gives_up}
use Rattle.ctl_table.specs.declared.seen.Seen.TheVariants.{Finished}
use Rattle.ctl_table.specs.Seen.{seen_of, gives_up_in}

-- who has come to its last phase idles and stays
stays_in : (plan : Plan) (t : ℕ) (local : Local) (h : How) (found : ℕ) (phase : Phase) → IsTrue (is_last phase) → after_in plan t local h found phase ≡ (local, what.Idle)
stays_in plan t local h found Outside ends = absurd (false≢true ends)
stays_in plan t local h found Kicking ends = absurd (false≢true ends)
stays_in plan t local h found OfflineWait ends = absurd (false≢true ends)
stays_in plan t local h found Arriving ends = absurd (false≢true ends)
stays_in plan t local h found Deciding ends = absurd (false≢true ends)
stays_in plan t local h found Waiting ends = absurd (false≢true ends)
stays_in plan t local h found Reading ends = absurd (false≢true ends)
stays_in plan t local h found Beginning ends = absurd (false≢true ends)
stays_in plan t local h found Writing ends = absurd (false≢true ends)
stays_in plan t local h found Checking ends = absurd (false≢true ends)
stays_in plan t local h found Reporting ends = absurd (false≢true ends)
stays_in plan t local h found Freeing ends = absurd (false≢true ends)
stays_in plan t local h found SiblingWait ends = absurd (false≢true ends)
stays_in plan t local h found SiblingCheck ends = absurd (false≢true ends)
stays_in plan t local h found SiblingCopy ends = absurd (false≢true ends)
stays_in plan t local h found Withdrawing ends = absurd (false≢true ends)
stays_in plan t local h found Releasing ends = absurd (false≢true ends)
stays_in plan t local h found OfflineCount ends = absurd (false≢true ends)
stays_in plan t local h found OfflineHold ends = absurd (false≢true ends)
stays_in plan t local h found Leaving ends = absurd (false≢true ends)
stays_in plan t local h found Left ends = refl
stays_in plan t local h found Halted ends = refl
stays_in plan t local h found Withdrawn ends = refl
stays_in plan t local h found Nothing ends = refl

pub stays_at_end : (plan : Plan) (t : ℕ) (local : Local) (h : How) (found : ℕ) → IsTrue (is_last local.phase) → after plan t local h found ≡ (local, what.Idle)
unfolding after
stays_at_end plan t local h found ends = stays_in plan t local h found local.phase ends

-- who did not give up does not answer that it did
pub patient_seen : (item : What) → gives_up item ≡ false → gives_up_in (seen_of item) ≡ false
patient_seen what.Enter quiet = quiet
patient_seen (what.Kick k) quiet = quiet
patient_seen what.Arrive quiet = quiet
patient_seen what.Go quiet = quiet
patient_seen what.Drop quiet = quiet
patient_seen what.DropKick quiet = quiet
patient_seen (what.Withdraw k) quiet = quiet
patient_seen (what.Begin g) quiet = quiet
patient_seen (what.Wrote g r) quiet = quiet
patient_seen (what.Report g x) quiet = quiet
patient_seen (what.Free k) quiet = quiet
patient_seen (what.Leave x) quiet = quiet
patient_seen what.Halt quiet = quiet
patient_seen what.Ordinary quiet = quiet
patient_seen what.Poll quiet = refl
patient_seen what.Inner quiet = quiet
patient_seen what.Latched quiet = quiet
patient_seen what.Idle quiet = refl

-- only who idles answers that it has finished
pub finished_idles : (item : What) → seen_of item ≡ Finished → item ≡ what.Idle
finished_idles what.Enter is = absurd cc
finished_idles (what.Kick k) is = absurd cc
finished_idles what.Arrive is = absurd cc
finished_idles what.Go is = absurd cc
finished_idles what.Drop is = absurd cc
finished_idles what.DropKick is = absurd cc
finished_idles (what.Withdraw k) is = absurd cc
finished_idles (what.Begin g) is = absurd cc
finished_idles (what.Wrote g r) is = absurd cc
finished_idles (what.Report g x) is = absurd cc
finished_idles (what.Free k) is = absurd cc
finished_idles (what.Leave x) is = absurd cc
finished_idles what.Halt is = absurd cc
finished_idles what.Ordinary is = absurd cc
finished_idles what.Poll is = absurd cc
finished_idles what.Inner is = absurd cc
finished_idles what.Latched is = absurd cc
finished_idles what.Idle is = refl
