-- A step writes no revision of more than 32 bits.
use Rattle.std.proofs.Common.{◌≡◌, ℕ, ◌==◌, ◌<◌, ◌^◌, Bool, true, false, if◌then◌else◌, Option, Some, IfSome, subst}
use Rattle.rendezvous_steps.specs.declared.steps.Kind.{Kind}
use Rattle.rendezvous_steps.specs.declared.steps.Kind.TheVariants.{Online, Offline, Absent}
use Rattle.rendezvous_steps.specs.declared.steps.Phase.{Phase}
use Rattle.rendezvous_steps.specs.declared.steps.Phase.TheVariants.{Outside, Kicking, OfflineWait, Arriving, Deciding, Waiting, Reading, Beginning, Writing, Checking, Reporting, Freeing, SiblingWait, SiblingCheck, SiblingCopy, Withdrawing, Releasing, OfflineCount, OfflineHold, Leaving, Left, Halted, Withdrawn, Nothing}
use Rattle.rendezvous_steps.specs.declared.steps.Local.{Local}
use Rattle.rendezvous_steps.specs.declared.steps.How.{How}
use Rattle.rendezvous_steps.specs.declared.steps.How.TheVariants as how
use Rattle.rendezvous_steps.specs.declared.operations.Word.{Word}
use Rattle.rendezvous_steps.specs.declared.operations.Word.TheVariants.{Rev}
use Rattle.rendezvous_steps.specs.declared.operations.Op.{Op}
use Rattle.rendezvous_steps.specs.Plan.{Plan}
use Rattle.rendezvous_steps.specs.Words.{words_after}
use Rattle.rendezvous_steps.specs.StepTable.{operation, operation_in, enter_operation, write_of}

abbrev Small : (Word → ℕ) → Type 0
Small words = (g : ℕ) → words (Rev g) < 2 ^ 32

either_small : (b : Bool) (x y : ℕ) → x < 2 ^ 32 → y < 2 ^ 32 → (if b then x else y) < 2 ^ 32
either_small true x y first second = first
either_small false x y first second = second

small_entering : (kind : Kind) (t : ℕ) (words : Word → ℕ) → Small words → Small (words_after words (enter_operation kind t))
small_entering Offline t words small g = small g
small_entering Online t words small g = small g
small_entering Absent t words small g = small g

small_in : (plan : Plan) (t : ℕ) (local : Local) (h : How) (words : Word → ℕ) (phase : Phase) → ((g : ℕ) → write_of plan g < 2 ^ 32) → Small words → IfSome (operation_in plan t local h phase) (λ op. Small (words_after words op))
small_in plan t local h words Outside writes small = small_entering (plan.kind t) t words small
small_in plan t local h words Kicking writes small = λ g. small g
small_in plan t local how.Timeout words OfflineWait writes small = λ g. small g
small_in plan t local how.Step words OfflineWait writes small = λ g. small g
small_in plan t local how.Nmi words OfflineWait writes small = λ g. small g
small_in plan t local h words Arriving writes small = λ g. small g
small_in plan t local h words Deciding writes small = λ g. small g
small_in plan t local how.Timeout words Waiting writes small = λ g. small g
small_in plan t local how.Step words Waiting writes small = λ g. small g
small_in plan t local how.Nmi words Waiting writes small = λ g. small g
small_in plan t local h words Reading writes small = λ g. either_small (g == plan.group t) _ _ (small (plan.group t)) (small g)
small_in plan t local h words Beginning writes small = λ g. small g
small_in plan t local h words Writing writes small = λ g. either_small (g == plan.group t) _ _ (writes (plan.group t)) (small g)
small_in plan t local h words Checking writes small = λ g. either_small (g == plan.group t) _ _ (small (plan.group t)) (small g)
small_in plan t local h words Reporting writes small = λ g. small g
small_in plan t local h words Freeing writes small = λ g. small g
small_in plan t local how.Timeout words SiblingWait writes small = λ g. small g
small_in plan t local how.Step words SiblingWait writes small = λ g. small g
small_in plan t local how.Nmi words SiblingWait writes small = λ g. small g
small_in plan t local h words SiblingCheck writes small = λ g. either_small (g == plan.group t) _ _ (small (plan.group t)) (small g)
small_in plan t local h words SiblingCopy writes small = λ g. small g
small_in plan t local h words Withdrawing writes small = λ g. small g
small_in plan t local h words Releasing writes small = λ g. small g
small_in plan t local h words OfflineCount writes small = λ g. small g
small_in plan t local how.Timeout words OfflineHold writes small = λ g. small g
small_in plan t local how.Step words OfflineHold writes small = λ g. small g
small_in plan t local how.Nmi words OfflineHold writes small = λ g. small g
small_in plan t local h words Leaving writes small = λ g. small g
small_in plan t local h words Left writes small = tt
small_in plan t local h words Halted writes small = tt
small_in plan t local h words Withdrawn writes small = tt
small_in plan t local h words Nothing writes small = tt

pub small_after : (plan : Plan) (t : ℕ) (local : Local) (h : How) (words : Word → ℕ) (op : Op) → operation plan t local h ≡ Some op → ((g : ℕ) → write_of plan g < 2 ^ 32) → ((g : ℕ) → words (Rev g) < 2 ^ 32) → (g : ℕ) → words_after words op (Rev g) < 2 ^ 32
unfolding operation
small_after plan t local h words op is writes small =
    subst (λ (o : Option Op). IfSome o (λ op. Small (words_after words op))) is (small_in plan t local h words local.phase writes small)
