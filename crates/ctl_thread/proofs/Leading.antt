-- Where a step leads, phase by phase.
use Rattle.std.proofs.Common.{◌≡◌, ◌≢◌, ℕ, ◌+◌, ◌==◌, ◌&&◌, ◌||◌, Bool, true, false, not, if◌then◌else◌, IsTrue, IfSome, Option, Some, None, refl, sym, ◌∙◌, arith}
use Rattle.std.proofs.lemmas.Bool.Decides.{nat_tests}
use Rattle.std.proofs.lemmas.Bool.{false≢true}
use Rattle.rendezvous_steps.specs.declared.steps.Kind.{Kind}
use Rattle.rendezvous_steps.specs.declared.steps.Kind.TheVariants.{Online, Offline, Absent}
use Rattle.rendezvous_steps.specs.declared.steps.Phase.{Phase}
use Rattle.rendezvous_steps.specs.declared.steps.Phase.TheVariants.{Outside, Kicking, OfflineWait, Arriving, Deciding, Waiting, Reading, Beginning, Writing, Checking, Reporting, Freeing, SiblingWait, SiblingCheck, SiblingCopy, Withdrawing, Releasing, OfflineCount, OfflineHold, Leaving, Left, Halted, Withdrawn, Nothing}
use Rattle.rendezvous_steps.specs.declared.steps.Local.{Local}
use Rattle.rendezvous_steps.specs.declared.steps.How.{How}
use Rattle.rendezvous_steps.specs.declared.steps.How.TheVariants as how
use Rattle.rendezvous_steps.specs.declared.operations.Word.TheVariants as word
use Rattle.rendezvous_steps.specs.declared.operations.Op.{Op}
use Rattle.rendezvous_steps.specs.declared.operations.Op.TheVariants.{Load, Cas}
use Rattle.rendezvous_steps.specs.declared.items.What.{What}
use Rattle.rendezvous_steps.specs.declared.items.What.TheVariants as what
use Rattle.rendezvous_steps.specs.Plan.{Plan, is_primary, offline_from, offline_count}
use Rattle.rendezvous_steps.specs.Words.{touched, written}
use Rattle.rendezvous_steps.specs.StepTable.{operation, operation_in, after, after_in, after_outside, outside_item, entered, kick_at, loop_at, go_path, drop_path, withdraw_at, by_decision, by_release, polled, wait_in, to}
use Rattle.ctl_thread.specs.Promises.{is_before_decision, is_after_go, is_leaving, is_of_primary, gives_up}

-- what holds in both cases of a test
pub at_cond : {A : Type 0} (b : Bool) (x y : A) (P : A → Type 0) → (b ≡ true → P x) → (b ≡ false → P y) → P (if b then x else y)
at_cond true x y P then_ else_ = then_ refl
at_cond false x y P then_ else_ = else_ refl

module _ (P : Phase → Type 0) where
  at_loop : (local : Local) (phase : Phase) (k : Option ℕ) (after : Phase) → P phase → P after → P (loop_at local phase k after).phase
  at_loop local phase (Some k) after in_loop past = in_loop
  at_loop local phase None after in_loop past = past

  at_kick : (local : Local) (k : Option ℕ) → P Kicking → P OfflineWait → P (kick_at local k).phase
  at_kick local (Some k) in_loop past = in_loop
  at_kick local None in_loop past = past

  at_entered : (plan : Plan) (t : ℕ) (local : Local) → P Kicking → P Arriving → P (entered plan t local).phase
  at_entered plan t local in_loop past =
      at_cond {A = Local} (t == 0) _ _ (λ l. P l.phase) (λ _. at_loop local Kicking (offline_from plan 0) Arriving in_loop past) (λ _. past)

  at_go : (plan : Plan) (t : ℕ) (local : Local) → (IsTrue (is_primary plan t) → P Reading) → P SiblingWait → P (go_path plan t local).phase
  at_go plan t local as_primary as_sibling =
      at_cond {A = Local} (is_primary plan t) _ _ (λ l. P l.phase) as_primary (λ _. as_sibling)

  at_drop : (plan : Plan) (t : ℕ) (local : Local) → P Withdrawing → P Leaving → P (drop_path plan t local).phase
  at_drop plan t local in_loop past =
      at_cond {A = Local} (t == 0) _ _ (λ l. P l.phase) (λ _. at_loop (record local { mine = 5 }) Withdrawing (offline_from plan 0) Leaving in_loop past) (λ _. past)

-- a thread's state, in this phase
abbrev pub state : Phase → ℕ → ℕ → ℕ → Local
state phase at polls mine = record { phase = phase; at = at; polls = polls; mine = mine }

test_is : (found n : ℕ) → IsTrue (found == n) → found ≡ n
test_is found n e = grind (arith, nat_tests)

test_is_not : (found n : ℕ) → (found == n) ≡ false → found ≢ n
test_is_not found n e = grind (arith, nat_tests)

no : {A : Type 0} (b : Bool) → b ≡ false → b ≡ true → A
no b off on = absurd (false≢true (sym off ∙ on))

-- what holds in both cases of a row's test
at_row : (b : Bool) (x y : Local × What) (P : Local × What → Type 0) → (b ≡ true → P x) → (b ≡ false → P y) → P (if b then x else y)
at_row = at_cond {A = Local × What}

-- a test that fails in the phases to which these rows lead
module _ (test : Phase → Bool) where
  fails_outside : (k : Kind) (plan : Plan) (t : ℕ) (local : Local) (h : How) (found : ℕ) → test Kicking ≡ false → test Arriving ≡ false → test OfflineCount ≡ false → test Withdrawn ≡ false → test local.phase ≡ false → test (after_outside k plan t local h found).0.phase ≡ false
  fails_outside Offline plan t local h found kicking arriving counting withdrawn same =
      at_row (found == 1) (to local OfflineCount, what.Enter) (if found == 3 then (to local Withdrawn, outside_item h what.Idle) else (local, outside_item h what.Poll)) (λ r. test r.0.phase ≡ false)
      (λ _. counting)
      (λ _. at_row (found == 3) (to local Withdrawn, outside_item h what.Idle) (local, outside_item h what.Poll) (λ r. test r.0.phase ≡ false) (λ _. withdrawn) (λ _. same))
  fails_outside Online plan t local h found kicking arriving counting withdrawn same = at_entered (λ p. test p ≡ false) plan t local kicking arriving
  fails_outside Absent plan t local h found kicking arriving counting withdrawn same = at_entered (λ p. test p ≡ false) plan t local kicking arriving

  fails_kicking : (local : Local) (k : Option ℕ) → test Kicking ≡ false → test OfflineWait ≡ false → test (kick_at local k).phase ≡ false
  fails_kicking = at_kick (λ p. test p ≡ false)

  fails_dropping : (plan : Plan) (t : ℕ) (local : Local) → test Withdrawing ≡ false → test Leaving ≡ false → test (drop_path plan t local).phase ≡ false
  fails_dropping = at_drop (λ p. test p ≡ false)

  fails_withdrawing : (local : Local) (k : Option ℕ) → test Withdrawing ≡ false → test Leaving ≡ false → test (withdraw_at local k).phase ≡ false
  fails_withdrawing local k = at_loop (λ p. test p ≡ false) local Withdrawing k Leaving

  fails_local : (b : Bool) (x y : Local) → test x.phase ≡ false → test y.phase ≡ false → test (if b then x else y).phase ≡ false
  fails_local true x y first second = first
  fails_local false x y first second = second

  fails_row : (b : Bool) (x y : Local × What) → test x.0.phase ≡ false → test y.0.phase ≡ false → test (if b then x else y).0.phase ≡ false
  fails_row true x y first second = first
  fails_row false x y first second = second

-- a decision that an exchange makes or finds
made : (found new : ℕ) → new ≢ 0 → (if found == 0 then new else found) ≢ 0
made found new some = grind (arith, nat_tests)

abbrev Go : Op → ℕ → Type 0
Go op found = (touched op ≡ word.Decide) × (written op found ≡ 1)

abbrev Out : Op → ℕ → Type 0
Out op found = (touched op ≡ word.Decide) × (written op found ≢ 0)

not_going : {A : Type 0} (plan : Plan) (t : ℕ) (local : Local) → is_after_go (drop_path plan t local).phase ≡ true → A
not_going plan t local e = no _ (fails_dropping is_after_go plan t local refl refl) e

go_deciding : (plan : Plan) (t : ℕ) (local : Local) (found : ℕ) → IsTrue (is_after_go (after_in plan t local how.Step found Deciding).0.phase) → Go (Cas word.Decide 0 1) found
go_deciding plan t local found =
    at_row (found == 0) (go_path plan t local, what.Go) (drop_path plan t local, what.Inner) (λ r. IsTrue (is_after_go r.0.phase) → Go (Cas word.Decide 0 1) found)
    (λ e _. (refl, rw e refl))
    (λ _ going. not_going plan t local going)

go_by_decision : (plan : Plan) (t : ℕ) (local : Local) (found : ℕ) → IsTrue (is_after_go (by_decision plan t local found).0.phase) → found ≡ 1
go_by_decision plan t local found =
    at_row (found == 1) (go_path plan t local, what.Inner) (drop_path plan t local, what.Inner) (λ r. IsTrue (is_after_go r.0.phase) → found ≡ 1)
    (λ e _. test_is found 1 e)
    (λ _ going. not_going plan t local going)

go_looking : (plan : Plan) (t at polls mine found : ℕ) → IsTrue (is_after_go (after_in plan t (state Waiting at polls mine) how.Step found Waiting).0.phase) → Go (Load word.Decide) found
go_looking plan t at polls mine found =
    at_row (found == 0) (polled (state Waiting at polls mine), what.Poll) (by_decision plan t (state Waiting at polls mine) found) (λ r. IsTrue (is_after_go r.0.phase) → Go (Load word.Decide) found)
    (λ _ going. absurd (false≢true going))
    (λ _ going. (refl, go_by_decision plan t (state Waiting at polls mine) found going))

go_timing_out : (plan : Plan) (t at polls mine found : ℕ) → IsTrue (is_after_go (after_in plan t (state Waiting at polls mine) how.Timeout found Waiting).0.phase) → Go (Cas word.Decide 0 (3 + t)) found
go_timing_out plan t at polls mine found =
    at_row (found == 0) (drop_path plan t (state Waiting at polls mine), what.Drop) (by_decision plan t (state Waiting at polls mine) found) (λ r. IsTrue (is_after_go r.0.phase) → Go (Cas word.Decide 0 (3 + t)) found)
    (λ _ going. not_going plan t (state Waiting at polls mine) going)
    (λ e going. (refl, rw e (go_by_decision plan t (state Waiting at polls mine) found going)))

go_in : (plan : Plan) (t at polls mine : ℕ) (h : How) (found : ℕ) (phase : Phase) → IsTrue (not (is_after_go phase) && is_after_go (after_in plan t (state phase at polls mine) h found phase).0.phase) → IfSome (operation_in plan t (state phase at polls mine) h phase) (λ op. Go op found)
go_in plan t at polls mine h found Outside e = no _ (fails_outside is_after_go (plan.kind t) plan t (state Outside at polls mine) h found refl refl refl refl refl) e
go_in plan t at polls mine h found Kicking e = no _ (fails_kicking is_after_go (state Kicking at polls mine) (offline_from plan (at + 1)) refl refl) e
go_in plan t at polls mine how.Timeout found OfflineWait e = not_going plan t (state OfflineWait at polls mine) e
go_in plan t at polls mine how.Step found OfflineWait e = no _ (fails_row is_after_go (found == offline_count plan) (to (state OfflineWait at polls mine) Arriving, what.Inner) (polled (state OfflineWait at polls mine), what.Poll) refl refl) e
go_in plan t at polls mine how.Nmi found OfflineWait e = no _ (fails_row is_after_go (found == offline_count plan) (to (state OfflineWait at polls mine) Arriving, what.Inner) (polled (state OfflineWait at polls mine), what.Poll) refl refl) e
go_in plan t at polls mine h found Arriving e = no _ (fails_local is_after_go (found == 1) (to (state Arriving at polls mine) Deciding) (wait_in (state Arriving at polls mine) Waiting) refl refl) e
go_in plan t at polls mine h found Deciding e = go_deciding plan t (state Deciding at polls mine) found e
go_in plan t at polls mine how.Timeout found Waiting e = go_timing_out plan t at polls mine found e
go_in plan t at polls mine how.Step found Waiting e = go_looking plan t at polls mine found e
go_in plan t at polls mine how.Nmi found Waiting e = go_looking plan t at polls mine found e
go_in plan t at polls mine h found Reading e = absurd (false≢true e)
go_in plan t at polls mine h found Beginning e = absurd (false≢true e)
go_in plan t at polls mine h found Writing e = absurd (false≢true e)
go_in plan t at polls mine h found Checking e = absurd (false≢true e)
go_in plan t at polls mine h found Reporting e = absurd (false≢true e)
go_in plan t at polls mine h found Freeing e = absurd (false≢true e)
go_in plan t at polls mine how.Timeout found SiblingWait e = absurd (false≢true e)
go_in plan t at polls mine how.Step found SiblingWait e = absurd (false≢true e)
go_in plan t at polls mine how.Nmi found SiblingWait e = absurd (false≢true e)
go_in plan t at polls mine h found SiblingCheck e = absurd (false≢true e)
go_in plan t at polls mine h found SiblingCopy e = absurd (false≢true e)
go_in plan t at polls mine h found Withdrawing e = no _ (fails_row is_after_go (found == 1) (withdraw_at (state Withdrawing at polls mine) (offline_from plan (at + 1)), what.Withdraw at) (to (state Withdrawing at polls mine) Releasing, what.Inner) (fails_withdrawing is_after_go (state Withdrawing at polls mine) (offline_from plan (at + 1)) refl refl) refl) e
go_in plan t at polls mine h found Releasing e = no _ (fails_withdrawing is_after_go (state Releasing at polls mine) (offline_from plan (at + 1)) refl refl) e
go_in plan t at polls mine h found OfflineCount e = absurd (false≢true e)
go_in plan t at polls mine how.Timeout found OfflineHold e = no _ (fails_row is_after_go (found == 0) (to (state OfflineHold at polls mine) Halted, what.Halt) (to (state OfflineHold at polls mine) Leaving, what.Inner) refl refl) e
go_in plan t at polls mine how.Step found OfflineHold e = no _ (fails_row is_after_go (found == 0) (polled (state OfflineHold at polls mine), what.Poll) (to (state OfflineHold at polls mine) Leaving, what.Inner) refl refl) e
go_in plan t at polls mine how.Nmi found OfflineHold e = no _ (fails_row is_after_go (found == 0) (polled (state OfflineHold at polls mine), what.Poll) (to (state OfflineHold at polls mine) Leaving, what.Inner) refl refl) e
go_in plan t at polls mine h found Leaving e = absurd (false≢true e)
go_in plan t at polls mine h found Left e = tt
go_in plan t at polls mine h found Halted e = tt
go_in plan t at polls mine h found Withdrawn e = tt
go_in plan t at polls mine h found Nothing e = tt

pub go : (plan : Plan) (t : ℕ) (local : Local) (h : How) (found : ℕ) → IsTrue (not (is_after_go local.phase) && is_after_go (after plan t local h found).0.phase) → IfSome (operation plan t local h) (λ op. Go op found)
unfolding operation after
go plan t local h found e = go_in plan t local.at local.polls local.mine h found local.phase e

out_looking : (plan : Plan) (t at polls mine found : ℕ) → IsTrue (is_leaving (after_in plan t (state Waiting at polls mine) how.Step found Waiting).0.phase) → Out (Load word.Decide) found
out_looking plan t at polls mine found =
    at_row (found == 0) (polled (state Waiting at polls mine), what.Poll) (by_decision plan t (state Waiting at polls mine) found) (λ r. IsTrue (is_leaving r.0.phase) → Out (Load word.Decide) found)
    (λ _ leaving. absurd (false≢true leaving))
    (λ e _. (refl, test_is_not found 0 e))

out_in : (plan : Plan) (t at polls mine : ℕ) (h : How) (found : ℕ) (phase : Phase) → IsTrue (is_before_decision phase && is_leaving (after_in plan t (state phase at polls mine) h found phase).0.phase) → IfSome (operation_in plan t (state phase at polls mine) h phase) (λ op. Out op found)
out_in plan t at polls mine h found Outside e = no _ (fails_outside is_leaving (plan.kind t) plan t (state Outside at polls mine) h found refl refl refl refl refl) e
out_in plan t at polls mine h found Kicking e = no _ (fails_kicking is_leaving (state Kicking at polls mine) (offline_from plan (at + 1)) refl refl) e
out_in plan t at polls mine how.Timeout found OfflineWait e = (refl, made found 2 (omega arith))
out_in plan t at polls mine how.Step found OfflineWait e = no _ (fails_row is_leaving (found == offline_count plan) (to (state OfflineWait at polls mine) Arriving, what.Inner) (polled (state OfflineWait at polls mine), what.Poll) refl refl) e
out_in plan t at polls mine how.Nmi found OfflineWait e = no _ (fails_row is_leaving (found == offline_count plan) (to (state OfflineWait at polls mine) Arriving, what.Inner) (polled (state OfflineWait at polls mine), what.Poll) refl refl) e
out_in plan t at polls mine h found Arriving e = no _ (fails_local is_leaving (found == 1) (to (state Arriving at polls mine) Deciding) (wait_in (state Arriving at polls mine) Waiting) refl refl) e
out_in plan t at polls mine h found Deciding e = (refl, made found 1 (omega arith))
out_in plan t at polls mine how.Timeout found Waiting e = (refl, made found (3 + t) (omega arith))
out_in plan t at polls mine how.Step found Waiting e = out_looking plan t at polls mine found e
out_in plan t at polls mine how.Nmi found Waiting e = out_looking plan t at polls mine found e
out_in plan t at polls mine h found Reading e = absurd (false≢true e)
out_in plan t at polls mine h found Beginning e = absurd (false≢true e)
out_in plan t at polls mine h found Writing e = absurd (false≢true e)
out_in plan t at polls mine h found Checking e = absurd (false≢true e)
out_in plan t at polls mine h found Reporting e = absurd (false≢true e)
out_in plan t at polls mine h found Freeing e = absurd (false≢true e)
out_in plan t at polls mine how.Timeout found SiblingWait e = absurd (false≢true e)
out_in plan t at polls mine how.Step found SiblingWait e = absurd (false≢true e)
out_in plan t at polls mine how.Nmi found SiblingWait e = absurd (false≢true e)
out_in plan t at polls mine h found SiblingCheck e = absurd (false≢true e)
out_in plan t at polls mine h found SiblingCopy e = absurd (false≢true e)
out_in plan t at polls mine h found Withdrawing e = absurd (false≢true e)
out_in plan t at polls mine h found Releasing e = absurd (false≢true e)
out_in plan t at polls mine h found OfflineCount e = absurd (false≢true e)
out_in plan t at polls mine how.Timeout found OfflineHold e = absurd (false≢true e)
out_in plan t at polls mine how.Step found OfflineHold e = absurd (false≢true e)
out_in plan t at polls mine how.Nmi found OfflineHold e = absurd (false≢true e)
out_in plan t at polls mine h found Leaving e = absurd (false≢true e)
out_in plan t at polls mine h found Left e = tt
out_in plan t at polls mine h found Halted e = tt
out_in plan t at polls mine h found Withdrawn e = tt
out_in plan t at polls mine h found Nothing e = tt

pub out : (plan : Plan) (t : ℕ) (local : Local) (h : How) (found : ℕ) → IsTrue (is_before_decision local.phase && is_leaving (after plan t local h found).0.phase) → IfSome (operation plan t local h) (λ op. Out op found)
unfolding operation after
out plan t local h found e = out_in plan t local.at local.polls local.mine h found local.phase e

-- a primary, where the phase is one of writing
abbrev AsPrimary : Plan → ℕ → Phase → Type 0
AsPrimary plan t phase = IsTrue (is_of_primary phase) → IsTrue (is_primary plan t)

as_primary_going : (plan : Plan) (t : ℕ) (local : Local) → AsPrimary plan t (go_path plan t local).phase
as_primary_going plan t local = at_go (AsPrimary plan t) plan t local (λ primary _. primary) (λ e. absurd (false≢true e))

as_primary_dropping : (plan : Plan) (t : ℕ) (local : Local) → AsPrimary plan t (drop_path plan t local).phase
as_primary_dropping plan t local e = no _ (fails_dropping is_of_primary plan t local refl refl) e

as_primary_by_decision : (plan : Plan) (t : ℕ) (local : Local) (found : ℕ) → AsPrimary plan t (by_decision plan t local found).0.phase
as_primary_by_decision plan t local found =
    at_row (found == 1) (go_path plan t local, what.Inner) (drop_path plan t local, what.Inner) (λ r. AsPrimary plan t r.0.phase) (λ _. as_primary_going plan t local) (λ _. as_primary_dropping plan t local)

as_primary_in : (plan : Plan) (t at polls mine : ℕ) (h : How) (found : ℕ) (phase : Phase) → IsTrue (is_of_primary (after_in plan t (state phase at polls mine) h found phase).0.phase) → IsTrue (is_of_primary phase || is_primary plan t)
as_primary_in plan t at polls mine h found Outside e = no _ (fails_outside is_of_primary (plan.kind t) plan t (state Outside at polls mine) h found refl refl refl refl refl) e
as_primary_in plan t at polls mine h found Kicking e = no _ (fails_kicking is_of_primary (state Kicking at polls mine) (offline_from plan (at + 1)) refl refl) e
as_primary_in plan t at polls mine how.Timeout found OfflineWait e = as_primary_dropping plan t (state OfflineWait at polls mine) e
as_primary_in plan t at polls mine how.Step found OfflineWait e = no _ (fails_row is_of_primary (found == offline_count plan) (to (state OfflineWait at polls mine) Arriving, what.Inner) (polled (state OfflineWait at polls mine), what.Poll) refl refl) e
as_primary_in plan t at polls mine how.Nmi found OfflineWait e = no _ (fails_row is_of_primary (found == offline_count plan) (to (state OfflineWait at polls mine) Arriving, what.Inner) (polled (state OfflineWait at polls mine), what.Poll) refl refl) e
as_primary_in plan t at polls mine h found Arriving e = no _ (fails_local is_of_primary (found == 1) (to (state Arriving at polls mine) Deciding) (wait_in (state Arriving at polls mine) Waiting) refl refl) e
as_primary_in plan t at polls mine h found Deciding e = at_row (found == 0) (go_path plan t (state Deciding at polls mine), what.Go) (drop_path plan t (state Deciding at polls mine), what.Inner) (λ r. AsPrimary plan t r.0.phase) (λ _. as_primary_going plan t (state Deciding at polls mine)) (λ _. as_primary_dropping plan t (state Deciding at polls mine)) e
as_primary_in plan t at polls mine how.Timeout found Waiting e = at_row (found == 0) (drop_path plan t (state Waiting at polls mine), what.Drop) (by_decision plan t (state Waiting at polls mine) found) (λ r. AsPrimary plan t r.0.phase) (λ _. as_primary_dropping plan t (state Waiting at polls mine)) (λ _. as_primary_by_decision plan t (state Waiting at polls mine) found) e
as_primary_in plan t at polls mine how.Step found Waiting e = at_row (found == 0) (polled (state Waiting at polls mine), what.Poll) (by_decision plan t (state Waiting at polls mine) found) (λ r. AsPrimary plan t r.0.phase) (λ _ writing. absurd (false≢true writing)) (λ _. as_primary_by_decision plan t (state Waiting at polls mine) found) e
as_primary_in plan t at polls mine how.Nmi found Waiting e = at_row (found == 0) (polled (state Waiting at polls mine), what.Poll) (by_decision plan t (state Waiting at polls mine) found) (λ r. AsPrimary plan t r.0.phase) (λ _ writing. absurd (false≢true writing)) (λ _. as_primary_by_decision plan t (state Waiting at polls mine) found) e
as_primary_in plan t at polls mine h found Reading e = refl
as_primary_in plan t at polls mine h found Beginning e = refl
as_primary_in plan t at polls mine h found Writing e = refl
as_primary_in plan t at polls mine h found Checking e = refl
as_primary_in plan t at polls mine h found Reporting e = refl
as_primary_in plan t at polls mine h found Freeing e = refl
as_primary_in plan t at polls mine how.Timeout found SiblingWait e = no _ (fails_row is_of_primary (found == 0) (to (state SiblingWait at polls mine) Halted, what.Halt) (by_release (state SiblingWait at polls mine) found) refl (fails_row is_of_primary (found == 1) (to (state SiblingWait at polls mine) SiblingCheck, what.Inner) (to (state SiblingWait at polls mine) SiblingCopy, what.Inner) refl refl)) e
as_primary_in plan t at polls mine how.Step found SiblingWait e = no _ (fails_row is_of_primary (found == 0) (polled (state SiblingWait at polls mine), what.Poll) (by_release (state SiblingWait at polls mine) found) refl (fails_row is_of_primary (found == 1) (to (state SiblingWait at polls mine) SiblingCheck, what.Inner) (to (state SiblingWait at polls mine) SiblingCopy, what.Inner) refl refl)) e
as_primary_in plan t at polls mine how.Nmi found SiblingWait e = no _ (fails_row is_of_primary (found == 0) (polled (state SiblingWait at polls mine), what.Poll) (by_release (state SiblingWait at polls mine) found) refl (fails_row is_of_primary (found == 1) (to (state SiblingWait at polls mine) SiblingCheck, what.Inner) (to (state SiblingWait at polls mine) SiblingCopy, what.Inner) refl refl)) e
as_primary_in plan t at polls mine h found SiblingCheck e = absurd (false≢true e)
as_primary_in plan t at polls mine h found SiblingCopy e = absurd (false≢true e)
as_primary_in plan t at polls mine h found Withdrawing e = no _ (fails_row is_of_primary (found == 1) (withdraw_at (state Withdrawing at polls mine) (offline_from plan (at + 1)), what.Withdraw at) (to (state Withdrawing at polls mine) Releasing, what.Inner) (fails_withdrawing is_of_primary (state Withdrawing at polls mine) (offline_from plan (at + 1)) refl refl) refl) e
as_primary_in plan t at polls mine h found Releasing e = no _ (fails_withdrawing is_of_primary (state Releasing at polls mine) (offline_from plan (at + 1)) refl refl) e
as_primary_in plan t at polls mine h found OfflineCount e = absurd (false≢true e)
as_primary_in plan t at polls mine how.Timeout found OfflineHold e = no _ (fails_row is_of_primary (found == 0) (to (state OfflineHold at polls mine) Halted, what.Halt) (to (state OfflineHold at polls mine) Leaving, what.Inner) refl refl) e
as_primary_in plan t at polls mine how.Step found OfflineHold e = no _ (fails_row is_of_primary (found == 0) (polled (state OfflineHold at polls mine), what.Poll) (to (state OfflineHold at polls mine) Leaving, what.Inner) refl refl) e
as_primary_in plan t at polls mine how.Nmi found OfflineHold e = no _ (fails_row is_of_primary (found == 0) (polled (state OfflineHold at polls mine), what.Poll) (to (state OfflineHold at polls mine) Leaving, what.Inner) refl refl) e
as_primary_in plan t at polls mine h found Leaving e = absurd (false≢true e)
as_primary_in plan t at polls mine h found Left e = absurd (false≢true e)
as_primary_in plan t at polls mine h found Halted e = absurd (false≢true e)
as_primary_in plan t at polls mine h found Withdrawn e = absurd (false≢true e)
as_primary_in plan t at polls mine h found Nothing e = absurd (false≢true e)

pub as_primary : (plan : Plan) (t : ℕ) (local : Local) (h : How) (found : ℕ) → IsTrue (is_of_primary (after plan t local h found).0.phase) → IsTrue (is_of_primary local.phase || is_primary plan t)
unfolding after
as_primary plan t local h found e = as_primary_in plan t local.at local.polls local.mine h found local.phase e

-- items that give up on nobody
quiet_row : (b : Bool) (x y : Local × What) → gives_up x.1 ≡ false → gives_up y.1 ≡ false → gives_up (if b then x else y).1 ≡ false
quiet_row true x y first second = first
quiet_row false x y first second = second

quiet_item : (b : Bool) (x y : What) → gives_up x ≡ false → gives_up y ≡ false → gives_up (if b then x else y) ≡ false
quiet_item true x y first second = first
quiet_item false x y first second = second

quiet_outside : (k : Kind) (plan : Plan) (t : ℕ) (local : Local) (found : ℕ) → gives_up (after_outside k plan t local how.Step found).1 ≡ false
quiet_outside Offline plan t local found = quiet_row (found == 1) (to local OfflineCount, what.Enter) (if found == 3 then (to local Withdrawn, what.Idle) else (local, what.Poll)) refl (quiet_row (found == 3) (to local Withdrawn, what.Idle) (local, what.Poll) refl refl)
quiet_outside Online plan t local found = refl
quiet_outside Absent plan t local found = refl

quiet_in : (plan : Plan) (t : ℕ) (local : Local) (found : ℕ) (phase : Phase) → gives_up (after_in plan t local how.Step found phase).1 ≡ false
quiet_in plan t local found Outside = quiet_outside (plan.kind t) plan t local found
quiet_in plan t local found Kicking = refl
quiet_in plan t local found OfflineWait = quiet_row (found == offline_count plan) (to local Arriving, what.Inner) (polled local, what.Poll) refl refl
quiet_in plan t local found Arriving = refl
quiet_in plan t local found Deciding = quiet_row (found == 0) (go_path plan t local, what.Go) (drop_path plan t local, what.Inner) refl refl
quiet_in plan t local found Waiting = quiet_row (found == 0) (polled local, what.Poll) (by_decision plan t local found) refl (quiet_row (found == 1) (go_path plan t local, what.Inner) (drop_path plan t local, what.Inner) refl refl)
quiet_in plan t local found Reading = refl
quiet_in plan t local found Beginning = refl
quiet_in plan t local found Writing = refl
quiet_in plan t local found Checking = refl
quiet_in plan t local found Reporting = refl
quiet_in plan t local found Freeing = quiet_item (found == 0) (what.Free local.at) what.Inner refl refl
quiet_in plan t local found SiblingWait = quiet_row (found == 0) (polled local, what.Poll) (by_release local found) refl (quiet_row (found == 1) (to local SiblingCheck, what.Inner) (to local SiblingCopy, what.Inner) refl refl)
quiet_in plan t local found SiblingCheck = refl
quiet_in plan t local found SiblingCopy = refl
quiet_in plan t local found Withdrawing = quiet_row (found == 1) (withdraw_at local (offline_from plan (local.at + 1)), what.Withdraw local.at) (to local Releasing, what.Inner) refl refl
quiet_in plan t local found Releasing = quiet_item (found == 0) (what.Free local.at) what.Inner refl refl
quiet_in plan t local found OfflineCount = refl
quiet_in plan t local found OfflineHold = quiet_row (found == 0) (polled local, what.Poll) (to local Leaving, what.Inner) refl refl
quiet_in plan t local found Leaving = refl
quiet_in plan t local found Left = refl
quiet_in plan t local found Halted = refl
quiet_in plan t local found Withdrawn = refl
quiet_in plan t local found Nothing = refl

pub quiet : (plan : Plan) (t : ℕ) (local : Local) (found : ℕ) → gives_up (after plan t local how.Step found).1 ≡ false
unfolding after
quiet plan t local found = quiet_in plan t local found local.phase
