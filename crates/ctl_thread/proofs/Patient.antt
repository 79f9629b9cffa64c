-- What a step that is no timeout does not do, and where a thread idles, phase by phase.
use Rattle.std.proofs.Common.{◌≡◌, ◌≢◌, ℕ, ◌+◌, ◌≤◌, ◌==◌, ◌||◌, Bool, true, false, not, if◌then◌else◌, IsTrue, IfSome, Option, Some, None, refl, sym, ap, ◌∙◌, arith}
use Rattle.std.proofs.lemmas.Bool.Decides.{nat_tests}
use Rattle.std.proofs.lemmas.Bool.{false≢true}
use Rattle.rendezvous_steps.specs.declared.steps.Kind.{Kind}
use Rattle.rendezvous_steps.specs.declared.steps.Kind.TheVariants.{Online, Offline, Absent}
use Rattle.rendezvous_steps.specs.declared.steps.Phase.{Phase}
use Rattle.rendezvous_steps.specs.declared.steps.Phase.TheVariants.{Outside, Kicking, OfflineWait, Arriving, Deciding, Waiting, Reading, Beginning, Writing, Checking, Reporting, Freeing, SiblingWait, SiblingCheck, SiblingCopy, Withdrawing, Releasing, OfflineCount, OfflineHold, Leaving, Left, Halted, Withdrawn, Nothing}
use Rattle.rendezvous_steps.specs.declared.steps.Local.{Local}
use Rattle.rendezvous_steps.specs.declared.steps.How.{How}
use Rattle.rendezvous_steps.specs.declared.steps.How.TheVariants as how
use Rattle.rendezvous_steps.specs.declared.operations.Word.{Word}
use Rattle.rendezvous_steps.specs.declared.operations.Word.TheVariants as word
use Rattle.rendezvous_steps.specs.declared.operations.Op.{Op}
use Rattle.rendezvous_steps.specs.declared.items.What.{What}
use Rattle.rendezvous_steps.specs.declared.items.What.TheVariants as what
use Rattle.rendezvous_steps.specs.Plan.{Plan, is_primary, offline_from, sibling_from, offline_count}
use Rattle.rendezvous_steps.specs.Words.{words_after}
use Rattle.rendezvous_steps.specs.StepTable.{operation, operation_in, enter_operation, after, after_in, after_outside, kick_at, loop_at, go_path, drop_path, withdraw_at, free_at, entered, by_decision, by_release, told, exceeds, is_last}

-- A step leaves a drop only where it found one.

decided : (found : ℕ) → 2 ≤ (if found == 0 then 1 else found) → 2 ≤ found
decided found e = grind (arith, nat_tests)

abbrev Keeps : (Word → ℕ) → Option Op → Type 0
Keeps words op = IfSome op (λ o. 2 ≤ words_after words o word.Decide → 2 ≤ words word.Decide)

keeps_outside : (words : Word → ℕ) (k : Kind) (t : ℕ) → Keeps words (Some (enter_operation k t))
keeps_outside words Online t h = h
keeps_outside words Offline t h = h
keeps_outside words Absent t h = h

keeps_in : (plan : Plan) (t : ℕ) (local : Local) (words : Word → ℕ) (phase : Phase) → Keeps words (operation_in plan t local how.Step phase)
keeps_in plan t local words Outside = keeps_outside words (plan.kind t) t
keeps_in plan t local words Deciding = decided (words word.Decide)
keeps_in plan t local words Kicking = λ h. h
keeps_in plan t local words OfflineWait = λ h. h
keeps_in plan t local words Arriving = λ h. h
keeps_in plan t local words Waiting = λ h. h
keeps_in plan t local words Reading = λ h. h
keeps_in plan t local words Beginning = λ h. h
keeps_in plan t local words Writing = λ h. h
keeps_in plan t local words Checking = λ h. h
keeps_in plan t local words Reporting = λ h. h
keeps_in plan t local words Freeing = λ h. h
keeps_in plan t local words SiblingWait = λ h. h
keeps_in plan t local words SiblingCheck = λ h. h
keeps_in plan t local words SiblingCopy = λ h. h
keeps_in plan t local words Withdrawing = λ h. h
keeps_in plan t local words Releasing = λ h. h
keeps_in plan t local words OfflineCount = λ h. h
keeps_in plan t local words OfflineHold = λ h. h
keeps_in plan t local words Leaving = λ h. h
keeps_in plan t local words Left = tt
keeps_in plan t local words Halted = tt
keeps_in plan t local words Withdrawn = tt
keeps_in plan t local words Nothing = tt

pub step_drops_not : (plan : Plan) (t : ℕ) (local : Local) (words : Word → ℕ) → Keeps words (operation plan t local how.Step)
unfolding operation
step_drops_not plan t local words = keeps_in plan t local words local.phase

-- No row of a step leads to Halted.

abbrev halts : Phase → Bool
halts Halted = true
halts phase = false

halts_not : (phase : Phase) → halts phase ≡ false → phase ≢ Halted
halts_not phase fails is = false≢true (sym fails ∙ ap halts is)

on_row : (b : Bool) (x y : Local × What) → halts x.0.phase ≡ false → halts y.0.phase ≡ false → halts (if b then x else y).0.phase ≡ false
on_row true x y first second = first
on_row false x y first second = second

on_local : (b : Bool) (x y : Local) → halts x.phase ≡ false → halts y.phase ≡ false → halts (if b then x else y).phase ≡ false
on_local true x y first second = first
on_local false x y first second = second

on_loop : (local : Local) (phase : Phase) (k : Option ℕ) (after : Phase) → halts phase ≡ false → halts after ≡ false → halts (loop_at local phase k after).phase ≡ false
on_loop local phase (Some k) after in_loop past = in_loop
on_loop local phase None after in_loop past = past

on_kick : (local : Local) (k : Option ℕ) → halts (kick_at local k).phase ≡ false
on_kick local (Some k) = refl
on_kick local None = refl

on_entered : (plan : Plan) (t : ℕ) (local : Local) → halts (entered plan t local).phase ≡ false
on_entered plan t local = on_local (t == 0) _ _ (on_loop local Kicking (offline_from plan 0) Arriving refl refl) refl

on_go : (plan : Plan) (t : ℕ) (local : Local) → halts (go_path plan t local).phase ≡ false
on_go plan t local = on_local (is_primary plan t) _ _ refl refl

on_drop : (plan : Plan) (t : ℕ) (local : Local) → halts (drop_path plan t local).phase ≡ false
on_drop plan t local = on_local (t == 0) _ _ (on_loop (record local { mine = 5 }) Withdrawing (offline_from plan 0) Leaving refl refl) refl

on_decision : (plan : Plan) (t : ℕ) (local : Local) (found : ℕ) → halts (by_decision plan t local found).0.phase ≡ false
on_decision plan t local found = on_row (found == 1) _ _ (on_go plan t local) (on_drop plan t local)

on_release : (local : Local) (found : ℕ) → halts (by_release local found).0.phase ≡ false
on_release local found = on_row (found == 1) _ _ refl refl

on_outside : (k : Kind) (plan : Plan) (t : ℕ) (local : Local) (found : ℕ) → halts local.phase ≡ false → halts (after_outside k plan t local how.Step found).0.phase ≡ false
on_outside Offline plan t local found here = on_row (found == 1) _ _ refl (on_row (found == 3) _ _ refl here)
on_outside Online plan t local found here = on_entered plan t local
on_outside Absent plan t local found here = on_entered plan t local

abbrev in_phase : Phase → ℕ → ℕ → ℕ → Local
in_phase phase at polls mine = record { phase = phase; at = at; polls = polls; mine = mine }

abbrev Halts : Plan → ℕ → Local → ℕ → Phase → Type 0
Halts plan t local found phase = IfSome (operation_in plan t local how.Step phase) (λ op. halts (after_in plan t local how.Step found phase).0.phase ≡ false)

halts_in : (plan : Plan) (t at polls mine found : ℕ) (phase : Phase) → Halts plan t (in_phase phase at polls mine) found phase
halts_in plan t at polls mine found Outside = on_outside (plan.kind t) plan t (in_phase Outside at polls mine) found refl
halts_in plan t at polls mine found Kicking = on_kick (in_phase Kicking at polls mine) (offline_from plan (at + 1))
halts_in plan t at polls mine found OfflineWait = on_row (found == offline_count plan) _ _ refl refl
halts_in plan t at polls mine found Arriving = on_local (found == 1) _ _ refl refl
halts_in plan t at polls mine found Deciding = on_row (found == 0) _ _ (on_go plan t (in_phase Deciding at polls mine)) (on_drop plan t (in_phase Deciding at polls mine))
halts_in plan t at polls mine found Waiting = on_row (found == 0) _ _ refl (on_decision plan t (in_phase Waiting at polls mine) found)
halts_in plan t at polls mine found Reading = on_local (exceeds (plan.offer (plan.group t)) found) _ _ refl refl
halts_in plan t at polls mine found Beginning = refl
halts_in plan t at polls mine found Writing = refl
halts_in plan t at polls mine found Checking = refl
halts_in plan t at polls mine found Reporting = on_loop (record { phase = Reporting; at = at; polls = polls; mine = told mine }) Freeing (sibling_from plan t 0) Leaving refl refl
halts_in plan t at polls mine found Freeing = on_loop (in_phase Freeing at polls mine) Freeing (sibling_from plan t (at + 1)) Leaving refl refl
halts_in plan t at polls mine found SiblingWait = on_row (found == 0) _ _ refl (on_release (in_phase SiblingWait at polls mine) found)
halts_in plan t at polls mine found SiblingCheck = refl
halts_in plan t at polls mine found SiblingCopy = refl
halts_in plan t at polls mine found Withdrawing = on_row (found == 1) _ _ (on_loop (in_phase Withdrawing at polls mine) Withdrawing (offline_from plan (at + 1)) Leaving refl refl) refl
halts_in plan t at polls mine found Releasing = on_loop (in_phase Releasing at polls mine) Withdrawing (offline_from plan (at + 1)) Leaving refl refl
halts_in plan t at polls mine found OfflineCount = refl
halts_in plan t at polls mine found OfflineHold = on_row (found == 0) _ _ refl refl
halts_in plan t at polls mine found Leaving = refl
halts_in plan t at polls mine found Left = tt
halts_in plan t at polls mine found Halted = tt
halts_in plan t at polls mine found Withdrawn = tt
halts_in plan t at polls mine found Nothing = tt

with_some : {A : Type 0} (x : Option A) (P Q : Type 0) → (P → Q) → IfSome x (λ _. P) → IfSome x (λ _. Q)
with_some (Some a) P Q f h = f h
with_some None P Q f h = tt

pub step_halts_not : (plan : Plan) (t : ℕ) (local : Local) (found : ℕ) → IfSome (operation plan t local how.Step) (λ op. (after plan t local how.Step found).0.phase ≢ Halted)
unfolding operation after
step_halts_not plan t local found =
    with_some (operation_in plan t local how.Step local.phase) _ _ (halts_not (after_in plan t local how.Step found local.phase).0.phase)
    (halts_in plan t local.at local.polls local.mine found local.phase)

-- A row that idles leads to a last phase.

abbrev idles : What → Bool
idles what.Idle = true
idles item = false

abbrev ends : Local × What → Bool
ends x = not (idles x.1) || is_last x.0.phase

ends_row : (b : Bool) (x y : Local × What) → ends x ≡ true → ends y ≡ true → ends (if b then x else y) ≡ true
ends_row true x y first second = first
ends_row false x y first second = second

ends_item : (b : Bool) (local : Local) (x y : What) → idles x ≡ false → idles y ≡ false → ends (local, if b then x else y) ≡ true
ends_item true local x y first second = rw first refl
ends_item false local x y first second = rw second refl

ends_outside : (k : Kind) (plan : Plan) (t : ℕ) (local : Local) (h : How) (found : ℕ) → ends (after_outside k plan t local h found) ≡ true
ends_outside Offline plan t local how.Step found = ends_row (found == 1) _ _ refl (ends_row (found == 3) _ _ refl refl)
ends_outside Offline plan t local how.Timeout found = ends_row (found == 1) _ _ refl (ends_row (found == 3) _ _ refl refl)
ends_outside Offline plan t local how.Nmi found = ends_row (found == 1) _ _ refl (ends_row (found == 3) _ _ refl refl)
ends_outside Online plan t local h found = refl
ends_outside Absent plan t local h found = refl

ends_decision : (plan : Plan) (t : ℕ) (local : Local) (found : ℕ) → ends (by_decision plan t local found) ≡ true
ends_decision plan t local found = ends_row (found == 1) _ _ refl refl

ends_release : (local : Local) (found : ℕ) → ends (by_release local found) ≡ true
ends_release local found = ends_row (found == 1) _ _ refl refl

ends_in : (plan : Plan) (t at polls mine : ℕ) (h : How) (found : ℕ) (phase : Phase) → ends (after_in plan t (in_phase phase at polls mine) h found phase) ≡ true
ends_in plan t at polls mine h found Outside = ends_outside (plan.kind t) plan t (in_phase Outside at polls mine) h found
ends_in plan t at polls mine h found Kicking = refl
ends_in plan t at polls mine how.Timeout found OfflineWait = ends_item (found == 0) (drop_path plan t (in_phase OfflineWait at polls mine)) _ _ refl refl
ends_in plan t at polls mine how.Step found OfflineWait = ends_row (found == offline_count plan) _ _ refl refl
ends_in plan t at polls mine how.Nmi found OfflineWait = ends_row (found == offline_count plan) _ _ refl refl
ends_in plan t at polls mine h found Arriving = refl
ends_in plan t at polls mine h found Deciding = ends_row (found == 0) _ _ refl refl
ends_in plan t at polls mine how.Timeout found Waiting = ends_row (found == 0) _ _ refl (ends_decision plan t (in_phase Waiting at polls mine) found)
ends_in plan t at polls mine how.Step found Waiting = ends_row (found == 0) _ _ refl (ends_decision plan t (in_phase Waiting at polls mine) found)
ends_in plan t at polls mine how.Nmi found Waiting = ends_row (found == 0) _ _ refl (ends_decision plan t (in_phase Waiting at polls mine) found)
ends_in plan t at polls mine h found Reading = refl
ends_in plan t at polls mine h found Beginning = refl
ends_in plan t at polls mine h found Writing = refl
ends_in plan t at polls mine h found Checking = refl
ends_in plan t at polls mine h found Reporting = refl
ends_in plan t at polls mine h found Freeing = ends_item (found == 0) (free_at (in_phase Freeing at polls mine) (sibling_from plan t (at + 1))) _ _ refl refl
ends_in plan t at polls mine how.Timeout found SiblingWait = ends_row (found == 0) _ _ refl (ends_release (in_phase SiblingWait at polls mine) found)
ends_in plan t at polls mine how.Step found SiblingWait = ends_row (found == 0) _ _ refl (ends_release (in_phase SiblingWait at polls mine) found)
ends_in plan t at polls mine how.Nmi found SiblingWait = ends_row (found == 0) _ _ refl (ends_release (in_phase SiblingWait at polls mine) found)
ends_in plan t at polls mine h found SiblingCheck = refl
ends_in plan t at polls mine h found SiblingCopy = refl
ends_in plan t at polls mine h found Withdrawing = ends_row (found == 1) _ _ refl refl
ends_in plan t at polls mine h found Releasing = ends_item (found == 0) (withdraw_at (in_phase Releasing at polls mine) (offline_from plan (at + 1))) _ _ refl refl
ends_in plan t at polls mine h found OfflineCount = refl
ends_in plan t at polls mine how.Timeout found OfflineHold = ends_row (found == 0) _ _ refl refl
ends_in plan t at polls mine how.Step found OfflineHold = ends_row (found == 0) _ _ refl refl
ends_in plan t at polls mine how.Nmi found OfflineHold = ends_row (found == 0) _ _ refl refl
ends_in plan t at polls mine h found Leaving = refl
ends_in plan t at polls mine h found Left = refl
ends_in plan t at polls mine h found Halted = refl
ends_in plan t at polls mine h found Withdrawn = refl
ends_in plan t at polls mine h found Nothing = refl

idle_ends : (x : Local × What) → ends x ≡ true → x.1 ≡ what.Idle → IsTrue (is_last x.0.phase)
idle_ends x all is =
    let seen : (not (idles x.1) || is_last x.0.phase) ≡ true = all in
    rw is at seen

pub idle_is_last : (plan : Plan) (t : ℕ) (local : Local) (h : How) (found : ℕ) → (after plan t local h found).1 ≡ what.Idle → IsTrue (is_last (after plan t local h found).0.phase)
unfolding after
idle_is_last plan t local h found = idle_ends (after_in plan t local h found local.phase) (ends_in plan t local.at local.polls local.mine h found local.phase)
