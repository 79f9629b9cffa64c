-- Which words a thread touches, and what it makes of the decision and of a revision, phase by phase.
use Rattle.std.proofs.Common.{◌≡◌, ◌≢◌, ℕ, ◌+◌, ◌==◌, ◌||◌, Bool, if◌then◌else◌, IsTrue, IfSome, refl, arith}
use Rattle.std.proofs.lemmas.Bool.Decides.{nat_tests}
use Rattle.rendezvous_steps.specs.declared.steps.Kind.{Kind}
use Rattle.rendezvous_steps.specs.declared.steps.Kind.TheVariants.{Online, Offline, Absent}
use Rattle.rendezvous_steps.specs.declared.steps.Phase.{Phase}
use Rattle.rendezvous_steps.specs.declared.steps.Phase.TheVariants.{Outside, Kicking, OfflineWait, Arriving, Deciding, Waiting, Reading, Beginning, Writing, Checking, Reporting, Freeing, SiblingWait, SiblingCheck, SiblingCopy, Withdrawing, Releasing, OfflineCount, OfflineHold, Leaving, Left, Halted, Withdrawn, Nothing}
use Rattle.rendezvous_steps.specs.declared.steps.Local.{Local}
use Rattle.rendezvous_steps.specs.declared.steps.How.{How}
use Rattle.rendezvous_steps.specs.declared.steps.How.TheVariants as how
use Rattle.rendezvous_steps.specs.Plan.{Plan}
use Rattle.rendezvous_steps.specs.Words.{touched, written}
use Rattle.rendezvous_steps.specs.StepTable.{operation, operation_in, enter_operation}
use Rattle.ctl_thread.specs.Promises.{may_touch, OnDecide, OnRevision, is_decision_of}

self : (n : ℕ) → IsTrue (n == n)
self n = grind (arith, nat_tests)

self_or : (n : ℕ) (b : Bool) → IsTrue ((n == n) || b)
self_or n b = grind (arith, nat_tests)

or_self : (n t : ℕ) → IsTrue ((n == t) || (n == n))
or_self n t = grind (arith, nat_tests)

touches_entering : (k : Kind) (plan : Plan) (t at : ℕ) → IsTrue (may_touch plan t Outside at (touched (enter_operation k t)))
touches_entering Offline plan t at = self_or t _
touches_entering Online plan t at = self t
touches_entering Absent plan t at = self t

touches_in : (plan : Plan) (t : ℕ) (local : Local) (h : How) (phase : Phase) → IfSome (operation_in plan t local h phase) (λ op. IsTrue (may_touch plan t phase local.at (touched op)))
touches_in plan t local h Outside = touches_entering (plan.kind t) plan t local.at
touches_in plan t local h Kicking = or_self local.at t
touches_in plan t local how.Timeout OfflineWait = refl
touches_in plan t local how.Step OfflineWait = refl
touches_in plan t local how.Nmi OfflineWait = refl
touches_in plan t local h Arriving = refl
touches_in plan t local h Deciding = refl
touches_in plan t local how.Timeout Waiting = refl
touches_in plan t local how.Step Waiting = refl
touches_in plan t local how.Nmi Waiting = refl
touches_in plan t local h Reading = self (plan.group t)
touches_in plan t local h Beginning = self t
touches_in plan t local h Writing = self (plan.group t)
touches_in plan t local h Checking = self (plan.group t)
touches_in plan t local h Reporting = self (plan.group t)
touches_in plan t local h Freeing = or_self local.at t
touches_in plan t local how.Timeout SiblingWait = self_or t _
touches_in plan t local how.Step SiblingWait = self_or t _
touches_in plan t local how.Nmi SiblingWait = self_or t _
touches_in plan t local h SiblingCheck = self (plan.group t)
touches_in plan t local h SiblingCopy = self (plan.group t)
touches_in plan t local h Withdrawing = or_self local.at t
touches_in plan t local h Releasing = or_self local.at t
touches_in plan t local h OfflineCount = refl
touches_in plan t local how.Timeout OfflineHold = self_or t _
touches_in plan t local how.Step OfflineHold = self_or t _
touches_in plan t local how.Nmi OfflineHold = self_or t _
touches_in plan t local h Leaving = self t
touches_in plan t local h Left = tt
touches_in plan t local h Halted = tt
touches_in plan t local h Withdrawn = tt
touches_in plan t local h Nothing = tt

pub touches : (plan : Plan) (t : ℕ) (local : Local) (h : How) → IfSome (operation plan t local h) (λ op. IsTrue (may_touch plan t local.phase local.at (touched op)))
unfolding operation
touches plan t local h = touches_in plan t local h local.phase

-- an exchange that finds a decision keeps it
kept : (found new : ℕ) → found ≢ 0 → (if found == 0 then new else found) ≡ found
kept found new there = grind (arith, nat_tests)

decision_stays_entering : (k : Kind) (t found : ℕ) → OnDecide (touched (enter_operation k t)) (written (enter_operation k t) found ≡ found)
decision_stays_entering Offline t found = tt
decision_stays_entering Online t found = tt
decision_stays_entering Absent t found = tt

decision_stays_in : (plan : Plan) (t : ℕ) (local : Local) (h : How) (found : ℕ) → found ≢ 0 → (phase : Phase) → IfSome (operation_in plan t local h phase) (λ op. OnDecide (touched op) (written op found ≡ found))
decision_stays_in plan t local h found there Outside = decision_stays_entering (plan.kind t) t found
decision_stays_in plan t local h found there Kicking = tt
decision_stays_in plan t local how.Timeout found there OfflineWait = kept found 2 there
decision_stays_in plan t local how.Step found there OfflineWait = tt
decision_stays_in plan t local how.Nmi found there OfflineWait = tt
decision_stays_in plan t local h found there Arriving = tt
decision_stays_in plan t local h found there Deciding = kept found 1 there
decision_stays_in plan t local how.Timeout found there Waiting = kept found (3 + t) there
decision_stays_in plan t local how.Step found there Waiting = refl
decision_stays_in plan t local how.Nmi found there Waiting = refl
decision_stays_in plan t local h found there Reading = tt
decision_stays_in plan t local h found there Beginning = tt
decision_stays_in plan t local h found there Writing = tt
decision_stays_in plan t local h found there Checking = tt
decision_stays_in plan t local h found there Reporting = tt
decision_stays_in plan t local h found there Freeing = tt
decision_stays_in plan t local how.Timeout found there SiblingWait = tt
decision_stays_in plan t local how.Step found there SiblingWait = tt
decision_stays_in plan t local how.Nmi found there SiblingWait = tt
decision_stays_in plan t local h found there SiblingCheck = tt
decision_stays_in plan t local h found there SiblingCopy = tt
decision_stays_in plan t local h found there Withdrawing = tt
decision_stays_in plan t local h found there Releasing = tt
decision_stays_in plan t local h found there OfflineCount = tt
decision_stays_in plan t local how.Timeout found there OfflineHold = tt
decision_stays_in plan t local how.Step found there OfflineHold = tt
decision_stays_in plan t local how.Nmi found there OfflineHold = tt
decision_stays_in plan t local h found there Leaving = tt
decision_stays_in plan t local h found there Left = tt
decision_stays_in plan t local h found there Halted = tt
decision_stays_in plan t local h found there Withdrawn = tt
decision_stays_in plan t local h found there Nothing = tt

pub decision_stays : (plan : Plan) (t : ℕ) (local : Local) (h : How) (found : ℕ) → found ≢ 0 → IfSome (operation plan t local h) (λ op. OnDecide (touched op) (written op found ≡ found))
unfolding operation
decision_stays plan t local h found there = decision_stays_in plan t local h found there local.phase

own_drop : (t : ℕ) → IsTrue (is_decision_of t (3 + t))
own_drop t = grind (arith, nat_tests)

decision_made_entering : (k : Kind) (t : ℕ) → OnDecide (touched (enter_operation k t)) (IsTrue (is_decision_of t (written (enter_operation k t) 0)))
decision_made_entering Offline t = tt
decision_made_entering Online t = tt
decision_made_entering Absent t = tt

decision_made_in : (plan : Plan) (t : ℕ) (local : Local) (h : How) (phase : Phase) → IfSome (operation_in plan t local h phase) (λ op. OnDecide (touched op) (IsTrue (is_decision_of t (written op 0))))
decision_made_in plan t local h Outside = decision_made_entering (plan.kind t) t
decision_made_in plan t local h Kicking = tt
decision_made_in plan t local how.Timeout OfflineWait = refl
decision_made_in plan t local how.Step OfflineWait = tt
decision_made_in plan t local how.Nmi OfflineWait = tt
decision_made_in plan t local h Arriving = tt
decision_made_in plan t local h Deciding = refl
decision_made_in plan t local how.Timeout Waiting = own_drop t
decision_made_in plan t local how.Step Waiting = refl
decision_made_in plan t local how.Nmi Waiting = refl
decision_made_in plan t local h Reading = tt
decision_made_in plan t local h Beginning = tt
decision_made_in plan t local h Writing = tt
decision_made_in plan t local h Checking = tt
decision_made_in plan t local h Reporting = tt
decision_made_in plan t local h Freeing = tt
decision_made_in plan t local how.Timeout SiblingWait = tt
decision_made_in plan t local how.Step SiblingWait = tt
decision_made_in plan t local how.Nmi SiblingWait = tt
decision_made_in plan t local h SiblingCheck = tt
decision_made_in plan t local h SiblingCopy = tt
decision_made_in plan t local h Withdrawing = tt
decision_made_in plan t local h Releasing = tt
decision_made_in plan t local h OfflineCount = tt
decision_made_in plan t local how.Timeout OfflineHold = tt
decision_made_in plan t local how.Step OfflineHold = tt
decision_made_in plan t local how.Nmi OfflineHold = tt
decision_made_in plan t local h Leaving = tt
decision_made_in plan t local h Left = tt
decision_made_in plan t local h Halted = tt
decision_made_in plan t local h Withdrawn = tt
decision_made_in plan t local h Nothing = tt

pub decision_made : (plan : Plan) (t : ℕ) (local : Local) (h : How) → IfSome (operation plan t local h) (λ op. OnDecide (touched op) (IsTrue (is_decision_of t (written op 0))))
unfolding operation
decision_made plan t local h = decision_made_in plan t local h local.phase

revision_stays_entering : (k : Kind) (t found : ℕ) → OnRevision (touched (enter_operation k t)) (written (enter_operation k t) found ≡ found)
revision_stays_entering Offline t found = tt
revision_stays_entering Online t found = tt
revision_stays_entering Absent t found = tt

revision_stays_in : (plan : Plan) (t : ℕ) (local : Local) (h : How) (found : ℕ) (phase : Phase) → phase ≢ Writing → IfSome (operation_in plan t local h phase) (λ op. OnRevision (touched op) (written op found ≡ found))
revision_stays_in plan t local h found Outside other = revision_stays_entering (plan.kind t) t found
revision_stays_in plan t local h found Kicking other = tt
revision_stays_in plan t local how.Timeout found OfflineWait other = tt
revision_stays_in plan t local how.Step found OfflineWait other = tt
revision_stays_in plan t local how.Nmi found OfflineWait other = tt
revision_stays_in plan t local h found Arriving other = tt
revision_stays_in plan t local h found Deciding other = tt
revision_stays_in plan t local how.Timeout found Waiting other = tt
revision_stays_in plan t local how.Step found Waiting other = tt
revision_stays_in plan t local how.Nmi found Waiting other = tt
revision_stays_in plan t local h found Reading other = refl
revision_stays_in plan t local h found Beginning other = tt
revision_stays_in plan t local h found Writing other = absurd (other refl)
revision_stays_in plan t local h found Checking other = refl
revision_stays_in plan t local h found Reporting other = tt
revision_stays_in plan t local h found Freeing other = tt
revision_stays_in plan t local how.Timeout found SiblingWait other = tt
revision_stays_in plan t local how.Step found SiblingWait other = tt
revision_stays_in plan t local how.Nmi found SiblingWait other = tt
revision_stays_in plan t local h found SiblingCheck other = refl
revision_stays_in plan t local h found SiblingCopy other = tt
revision_stays_in plan t local h found Withdrawing other = tt
revision_stays_in plan t local h found Releasing other = tt
revision_stays_in plan t local h found OfflineCount other = tt
revision_stays_in plan t local how.Timeout found OfflineHold other = tt
revision_stays_in plan t local how.Step found OfflineHold other = tt
revision_stays_in plan t local how.Nmi found OfflineHold other = tt
revision_stays_in plan t local h found Leaving other = tt
revision_stays_in plan t local h found Left other = tt
revision_stays_in plan t local h found Halted other = tt
revision_stays_in plan t local h found Withdrawn other = tt
revision_stays_in plan t local h found Nothing other = tt

pub revision_stays : (plan : Plan) (t : ℕ) (local : Local) (h : How) (found : ℕ) → local.phase ≢ Writing → IfSome (operation plan t local h) (λ op. OnRevision (touched op) (written op found ≡ found))
unfolding operation
revision_stays plan t local h found other = revision_stays_in plan t local h found local.phase other
