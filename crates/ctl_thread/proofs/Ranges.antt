-- A thread stays within its plan: it touches only words of the plan, and its loops only come to threads of the plan.
use Rattle.std.proofs.Common.{ℕ, zero, suc, ◌+◌, ◌-◌, ◌<◌, ◌≤◌, ◌==◌, Bool, true, false, if◌then◌else◌, nat_lt, IsTrue, IfSome, Option, Some, None, refl, arith}
use Rattle.std.specs.List.{find, range_with_len}
use Rattle.std.proofs.lemmas.Bool.Decides.{nat_tests}
use Rattle.rendezvous_steps.specs.declared.steps.Kind.{Kind}
use Rattle.rendezvous_steps.specs.declared.steps.Kind.TheVariants.{Online, Offline, Absent}
use Rattle.rendezvous_steps.specs.declared.steps.Phase.{Phase}
use Rattle.rendezvous_steps.specs.declared.steps.Phase.TheVariants.{Outside, Kicking, OfflineWait, Arriving, Deciding, Waiting, Reading, Beginning, Writing, Checking, Reporting, Freeing, SiblingWait, SiblingCheck, SiblingCopy, Withdrawing, Releasing, OfflineCount, OfflineHold, Leaving, Left, Halted, Withdrawn, Nothing}
use Rattle.rendezvous_steps.specs.declared.steps.Local.{Local}
use Rattle.rendezvous_steps.specs.declared.steps.How.{How}
use Rattle.rendezvous_steps.specs.declared.steps.How.TheVariants as how
use Rattle.rendezvous_steps.specs.declared.items.What.{What}
use Rattle.rendezvous_steps.specs.declared.items.What.TheVariants as what
use Rattle.rendezvous_steps.specs.Plan.{Plan, Sound, is_primary, offline_from, sibling_from, offline_count}
use Rattle.rendezvous_steps.specs.Words.{touched}
use Rattle.rendezvous_steps.specs.StepTable.{operation, operation_in, enter_operation, after, after_in, after_outside, outside_item, entered, kick_at, loop_at, go_path, drop_path, withdraw_at, by_decision, by_release, polled, wait_in, to, with_result, told, exceeds}
use Rattle.ctl_words.specs.Places.{is_word}

below : (n m : ℕ) → n < m → IsTrue (nat_lt n m)
below n m h = grind (arith, nat_tests)

words_entering : (k : Kind) (plan : Plan) (t : ℕ) → t < plan.threads → IsTrue (is_word plan (touched (enter_operation k t)))
words_entering Offline plan t h = below t plan.threads h
words_entering Online plan t h = below t plan.threads h
words_entering Absent plan t h = below t plan.threads h

words_in : (plan : Plan) (t : ℕ) (local : Local) (h : How) → t < plan.threads → plan.group t < plan.groups → local.at < plan.threads → (phase : Phase) → IfSome (operation_in plan t local h phase) (λ op. IsTrue (is_word plan (touched op)))
words_in plan t local h thread group at Outside = words_entering (plan.kind t) plan t thread
words_in plan t local h thread group at Kicking = below local.at plan.threads at
words_in plan t local how.Timeout thread group at OfflineWait = refl
words_in plan t local how.Step thread group at OfflineWait = refl
words_in plan t local how.Nmi thread group at OfflineWait = refl
words_in plan t local h thread group at Arriving = refl
words_in plan t local h thread group at Deciding = refl
words_in plan t local how.Timeout thread group at Waiting = refl
words_in plan t local how.Step thread group at Waiting = refl
words_in plan t local how.Nmi thread group at Waiting = refl
words_in plan t local h thread group at Reading = below (plan.group t) plan.groups group
words_in plan t local h thread group at Beginning = below t plan.threads thread
words_in plan t local h thread group at Writing = below (plan.group t) plan.groups group
words_in plan t local h thread group at Checking = below (plan.group t) plan.groups group
words_in plan t local h thread group at Reporting = below (plan.group t) plan.groups group
words_in plan t local h thread group at Freeing = below local.at plan.threads at
words_in plan t local how.Timeout thread group at SiblingWait = below t plan.threads thread
words_in plan t local how.Step thread group at SiblingWait = below t plan.threads thread
words_in plan t local how.Nmi thread group at SiblingWait = below t plan.threads thread
words_in plan t local h thread group at SiblingCheck = below (plan.group t) plan.groups group
words_in plan t local h thread group at SiblingCopy = below (plan.group t) plan.groups group
words_in plan t local h thread group at Withdrawing = below local.at plan.threads at
words_in plan t local h thread group at Releasing = below local.at plan.threads at
words_in plan t local h thread group at OfflineCount = refl
words_in plan t local how.Timeout thread group at OfflineHold = below t plan.threads thread
words_in plan t local how.Step thread group at OfflineHold = below t plan.threads thread
words_in plan t local how.Nmi thread group at OfflineHold = below t plan.threads thread
words_in plan t local h thread group at Leaving = below t plan.threads thread
words_in plan t local h thread group at Left = tt
words_in plan t local h thread group at Halted = tt
words_in plan t local h thread group at Withdrawn = tt
words_in plan t local h thread group at Nothing = tt

-- the word that a thread touches is one of the plan's
pub words : (plan : Plan) (t : ℕ) (local : Local) (h : How) → Sound plan → t < plan.threads → local.at < plan.threads → IfSome (operation plan t local h) (λ op. IsTrue (is_word plan (touched op)))
unfolding operation
words plan t local h sound thread at = words_in plan t local h thread (sound.groups_in_range t thread) at local.phase

-- what a search through numbers below m finds is below m
found_at : (b : Bool) (k m : ℕ) (rest : Option ℕ) → k < m → IfSome rest (λ u. u < m) → IfSome (if b then Some k else rest) (λ u. u < m)
found_at true k m rest here later = here
found_at false k m rest here later = later

found_below : (p : ℕ → Bool) (k n m : ℕ) → (0 < n → k + n ≤ m) → IfSome (find p (range_with_len k n)) (λ u. u < m)
found_below p k zero m h = tt
found_below p k (suc n) m h =
    let fits : k + suc n ≤ m = h (omega arith) in
    let next : k + 1 + n ≤ m = omega arith in
    found_at (p k) k m _ (omega arith) (found_below p (k + 1) n m (λ _. next))

offline_below : (plan : Plan) (k : ℕ) → IfSome (offline_from plan k) (λ u. u < plan.threads)
unfolding offline_from
offline_below plan k = found_below _ k (plan.threads - k) plan.threads (λ some. omega arith)

sibling_below : (plan : Plan) (t k : ℕ) → IfSome (sibling_from plan t k) (λ u. u < plan.threads)
unfolding sibling_from
sibling_below plan t k = found_below _ k (plan.threads - k) plan.threads (λ some. omega arith)

module _ (m : ℕ) where
  at_loop : (local : Local) (phase : Phase) (k : Option ℕ) (after : Phase) → local.at < m → IfSome k (λ u. u < m) → (loop_at local phase k after).at < m
  at_loop local phase (Some k) after at found = found
  at_loop local phase None after at found = at

  at_kick : (local : Local) (k : Option ℕ) → local.at < m → IfSome k (λ u. u < m) → (kick_at local k).at < m
  at_kick local (Some k) at found = found
  at_kick local None at found = at

  at_either : (b : Bool) (x y : Local) → x.at < m → y.at < m → (if b then x else y).at < m
  at_either true x y first second = first
  at_either false x y first second = second

  at_row : (b : Bool) (x y : Local × What) → x.0.at < m → y.0.at < m → (if b then x else y).0.at < m
  at_row true x y first second = first
  at_row false x y first second = second

at_entered : (plan : Plan) (t : ℕ) (local : Local) → local.at < plan.threads → (entered plan t local).at < plan.threads
at_entered plan t local at =
    at_either plan.threads (t == 0) (loop_at local Kicking (offline_from plan 0) Arriving) (to local Arriving)
    (at_loop plan.threads local Kicking (offline_from plan 0) Arriving at (offline_below plan 0)) at

at_drop : (plan : Plan) (t : ℕ) (local : Local) → local.at < plan.threads → (drop_path plan t local).at < plan.threads
at_drop plan t local at =
    at_either plan.threads (t == 0) (withdraw_at (record local { mine = 5 }) (offline_from plan 0)) (with_result local 5 Leaving)
    (at_loop plan.threads (record local { mine = 5 }) Withdrawing (offline_from plan 0) Leaving at (offline_below plan 0)) at

at_go : (plan : Plan) (t : ℕ) (local : Local) → local.at < plan.threads → (go_path plan t local).at < plan.threads
at_go plan t local at = at_either plan.threads (is_primary plan t) (to local Reading) (wait_in local SiblingWait) at at

at_by_decision : (plan : Plan) (t : ℕ) (local : Local) (found : ℕ) → local.at < plan.threads → (by_decision plan t local found).0.at < plan.threads
at_by_decision plan t local found at =
    at_row plan.threads (found == 1) (go_path plan t local, what.Inner) (drop_path plan t local, what.Inner) (at_go plan t local at) (at_drop plan t local at)

at_outside : (k : Kind) (plan : Plan) (t : ℕ) (local : Local) (h : How) (found : ℕ) → local.at < plan.threads → (after_outside k plan t local h found).0.at < plan.threads
at_outside Offline plan t local h found at =
    at_row plan.threads (found == 1) (to local OfflineCount, what.Enter) (if found == 3 then (to local Withdrawn, outside_item h what.Idle) else (local, outside_item h what.Poll)) at
    (at_row plan.threads (found == 3) (to local Withdrawn, outside_item h what.Idle) (local, outside_item h what.Poll) at at)
at_outside Online plan t local h found at = at_entered plan t local at
at_outside Absent plan t local h found at = at_entered plan t local at

at_in : (plan : Plan) (t : ℕ) (local : Local) (h : How) (found : ℕ) → local.at < plan.threads → (phase : Phase) → (after_in plan t local h found phase).0.at < plan.threads
at_in plan t local h found at Outside = at_outside (plan.kind t) plan t local h found at
at_in plan t local h found at Kicking = at_kick plan.threads local (offline_from plan (local.at + 1)) at (offline_below plan (local.at + 1))
at_in plan t local how.Timeout found at OfflineWait = at_drop plan t local at
at_in plan t local how.Step found at OfflineWait = at_row plan.threads (found == offline_count plan) (to local Arriving, what.Inner) (polled local, what.Poll) at at
at_in plan t local how.Nmi found at OfflineWait = at_row plan.threads (found == offline_count plan) (to local Arriving, what.Inner) (polled local, what.Poll) at at
at_in plan t local h found at Arriving = at_either plan.threads (found == 1) (to local Deciding) (wait_in local Waiting) at at
at_in plan t local h found at Deciding = at_row plan.threads (found == 0) (go_path plan t local, what.Go) (drop_path plan t local, what.Inner) (at_go plan t local at) (at_drop plan t local at)
at_in plan t local how.Timeout found at Waiting = at_row plan.threads (found == 0) (drop_path plan t local, what.Drop) (by_decision plan t local found) (at_drop plan t local at) (at_by_decision plan t local found at)
at_in plan t local how.Step found at Waiting = at_row plan.threads (found == 0) (polled local, what.Poll) (by_decision plan t local found) at (at_by_decision plan t local found at)
at_in plan t local how.Nmi found at Waiting = at_row plan.threads (found == 0) (polled local, what.Poll) (by_decision plan t local found) at (at_by_decision plan t local found at)
at_in plan t local h found at Reading = at_either plan.threads (exceeds (plan.offer (plan.group t)) found) (to local Beginning) (with_result local 3 Reporting) at at
at_in plan t local h found at Beginning = at
at_in plan t local h found at Writing = at
at_in plan t local h found at Checking = at
at_in plan t local h found at Reporting = at_loop plan.threads (record local { mine = told local.mine }) Freeing (sibling_from plan t 0) Leaving at (sibling_below plan t 0)
at_in plan t local h found at Freeing = at_loop plan.threads local Freeing (sibling_from plan t (local.at + 1)) Leaving at (sibling_below plan t (local.at + 1))
at_in plan t local how.Timeout found at SiblingWait = at_row plan.threads (found == 0) (to local Halted, what.Halt) (by_release local found) at (at_row plan.threads (found == 1) (to local SiblingCheck, what.Inner) (to local SiblingCopy, what.Inner) at at)
at_in plan t local how.Step found at SiblingWait = at_row plan.threads (found == 0) (polled local, what.Poll) (by_release local found) at (at_row plan.threads (found == 1) (to local SiblingCheck, what.Inner) (to local SiblingCopy, what.Inner) at at)
at_in plan t local how.Nmi found at SiblingWait = at_row plan.threads (found == 0) (polled local, what.Poll) (by_release local found) at (at_row plan.threads (found == 1) (to local SiblingCheck, what.Inner) (to local SiblingCopy, what.Inner) at at)
at_in plan t local h found at SiblingCheck = at
at_in plan t local h found at SiblingCopy = at
at_in plan t local h found at Withdrawing = at_row plan.threads (found == 1) (withdraw_at local (offline_from plan (local.at + 1)), what.Withdraw local.at) (to local Releasing, what.Inner) (at_loop plan.threads local Withdrawing (offline_from plan (local.at + 1)) Leaving at (offline_below plan (local.at + 1))) at
at_in plan t local h found at Releasing = at_loop plan.threads local Withdrawing (offline_from plan (local.at + 1)) Leaving at (offline_below plan (local.at + 1))
at_in plan t local h found at OfflineCount = at
at_in plan t local how.Timeout found at OfflineHold = at_row plan.threads (found == 0) (to local Halted, what.Halt) (to local Leaving, what.Inner) at at
at_in plan t local how.Step found at OfflineHold = at_row plan.threads (found == 0) (polled local, what.Poll) (to local Leaving, what.Inner) at at
at_in plan t local how.Nmi found at OfflineHold = at_row plan.threads (found == 0) (polled local, what.Poll) (to local Leaving, what.Inner) at at
at_in plan t local h found at Leaving = at
at_in plan t local h found at Left = at
at_in plan t local h found at Halted = at
at_in plan t local h found at Withdrawn = at
at_in plan t local h found at Nothing = at

-- the thread that a loop is at is one of the plan's
pub place : (plan : Plan) (t : ℕ) (local : Local) (h : How) (found : ℕ) → local.at < plan.threads → (after plan t local h found).0.at < plan.threads
unfolding after
place plan t local h found at = at_in plan t local h found at local.phase
