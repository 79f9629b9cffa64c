-- A step of a thread that waits for what is not there.
use Rattle.std.proofs.Common.{◌≡◌, ℕ, ◌==◌, true, false, Some, refl, sym, ap, ◌∙◌, true≢false}
use Rattle.rendezvous_steps.specs.declared.steps.Phase.{Phase}
use Rattle.rendezvous_steps.specs.declared.steps.Phase.TheVariants as phase
use Rattle.rendezvous_steps.specs.declared.steps.Local.{Local}
use Rattle.rendezvous_steps.specs.declared.steps.How.TheVariants.{Step}
use Rattle.rendezvous_steps.specs.declared.operations.Word.{Word}
use Rattle.rendezvous_steps.specs.declared.operations.Word.TheVariants.{Decide, Ctrl}
use Rattle.rendezvous_steps.specs.declared.operations.Op.TheVariants.{Load}
use Rattle.rendezvous_steps.specs.declared.items.What.{What}
use Rattle.rendezvous_steps.specs.declared.items.What.TheVariants.{Poll}
use Rattle.rendezvous_steps.specs.Plan.{Plan}
use Rattle.rendezvous_steps.specs.StepTable.{operation, after, polled}
use Rattle.rendezvous_steps.specs.Words.{words_after}
use Rattle.rendezvous_steps.specs.Events.{Running, put, steps}
use Rattle.ctl_core.specs.Moments.{waits}
use Rattle.ctl_core.proofs.Changes.{steps-operation}
use Rattle.ctl_core.proofs.Counting.{load_keeps}

-- the thread is polled once more, and nothing else changes
abbrev pub polls : ℕ → Running → Running × What
polls t running = (record running { locals = put running.locals t (polled (running.locals t)) }, Poll)

-- a step that loads a word and comes to a poll
load_polls : (plan : Plan) (t : ℕ) (running : Running) (w : Word) → operation plan t (running.locals t) Step ≡ Some (Load w) → after plan t (running.locals t) Step (running.words w) ≡ (polled (running.locals t), Poll) → steps plan t Step running ≡ polls t running
load_polls plan t running w op next =
    steps-operation plan t Step running (Some (Load w)) op
    ∙ (ap (λ (next : Local × What). (record running { words = words_after running.words (Load w); locals = put running.locals t next.0 }, next.1)) next
    ∙ ap (λ (words : Word → ℕ). (record running { words = words; locals = put running.locals t (polled (running.locals t)) }, Poll)) (load_keeps running.words w))

next_waiting : (plan : Plan) (t : ℕ) (local : Local) → local.phase ≡ phase.Waiting → operation plan t local Step ≡ Some (Load Decide)
unfolding operation
next_waiting plan t local is = rw is refl

next_sibling : (plan : Plan) (t : ℕ) (local : Local) → local.phase ≡ phase.SiblingWait → operation plan t local Step ≡ Some (Load (Ctrl t))
unfolding operation
next_sibling plan t local is = rw is refl

next_hold : (plan : Plan) (t : ℕ) (local : Local) → local.phase ≡ phase.OfflineHold → operation plan t local Step ≡ Some (Load (Ctrl t))
unfolding operation
next_hold plan t local is = rw is refl

after_waiting : (plan : Plan) (t : ℕ) (local : Local) (found : ℕ) → local.phase ≡ phase.Waiting → found == 0 ≡ true → after plan t local Step found ≡ (polled local, Poll)
unfolding after
after_waiting plan t local found is none = rw (is, none) refl

after_sibling : (plan : Plan) (t : ℕ) (local : Local) (found : ℕ) → local.phase ≡ phase.SiblingWait → found == 0 ≡ true → after plan t local Step found ≡ (polled local, Poll)
unfolding after
after_sibling plan t local found is none = rw (is, none) refl

after_hold : (plan : Plan) (t : ℕ) (local : Local) (found : ℕ) → local.phase ≡ phase.OfflineHold → found == 0 ≡ true → after plan t local Step found ≡ (polled local, Poll)
unfolding after
after_hold plan t local found is none = rw (is, none) refl

by_phase : (plan : Plan) (t : ℕ) (running : Running) (p : Phase) → (running.locals t).phase ≡ p → waits p running.words t ≡ true → steps plan t Step running ≡ polls t running
by_phase plan t running phase.Waiting is none = load_polls plan t running Decide (next_waiting plan t _ is) (after_waiting plan t _ _ is none)
by_phase plan t running phase.SiblingWait is none = load_polls plan t running (Ctrl t) (next_sibling plan t _ is) (after_sibling plan t _ _ is none)
by_phase plan t running phase.OfflineHold is none = load_polls plan t running (Ctrl t) (next_hold plan t _ is) (after_hold plan t _ _ is none)
by_phase plan t running p is none = absurd (true≢false (sym none))

pub waits_polls : (plan : Plan) (t : ℕ) (running : Running) → waits (running.locals t).phase running.words t ≡ true → steps plan t Step running ≡ polls t running
waits_polls plan t running none = by_phase plan t running (running.locals t).phase refl none
