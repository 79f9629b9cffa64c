-- Operations that leave their word as it was, and tests of a number that was found.
use Rattle.std.proofs.Common.{◌≡◌, ℕ, Bool, true, false, ◌==◌, if◌then◌else◌, refl, ap, arith}
use Rattle.std.proofs.lemmas.Bool.Decides.{nat_tests}
use Rattle.rendezvous_steps.specs.declared.operations.Word.{Word}
use Rattle.rendezvous_steps.specs.declared.operations.Word.TheVariants.{Arrive, OffIn, Decide, Mode, Ctrl, Nmi, Rev, Res}
use Rattle.rendezvous_steps.specs.declared.operations.Op.TheVariants.{Load, Cas}
use Rattle.rendezvous_steps.specs.Words.{families, put_word, words_after}
use Rattle.rendezvous_steps.specs.Events.{put}
use Rattle.rendezvous_model.specs.Round.{Stage, Gathering, Going, DroppedByKick, DroppedBy, is_dropped}
use Rattle.rendezvous_model.specs.Outcome.{decide_of}
use Rattle.rule_laws.proofs.Frame.{put_back}

-- a word that is given the number that it holds
pub same_word : (words : Word → ℕ) (w : Word) (v : ℕ) → v ≡ words w → families (put_word words w v) ≡ families words
unfolding put
same_word words Arrive v e = ap (λ n. record (families words) { arrive = n }) e
same_word words OffIn v e = ap (λ n. record (families words) { off_in = n }) e
same_word words Decide v e = ap (λ n. record (families words) { decide = n }) e
same_word words (Mode t) v e = ap (λ f. record (families words) { mode = f }) (put_back (families words).mode t v e)
same_word words (Ctrl t) v e = ap (λ f. record (families words) { ctrl = f }) (put_back (families words).ctrl t v e)
same_word words (Nmi t) v e = ap (λ f. record (families words) { nmi = f }) (put_back (families words).nmi t v e)
same_word words (Rev g) v e = ap (λ f. record (families words) { rev = f }) (put_back (families words).rev g v e)
same_word words (Res g) v e = ap (λ f. record (families words) { res = f }) (put_back (families words).res g v e)

-- a load
pub load_keeps : (words : Word → ℕ) (w : Word) → families (words_after words (Load w)) ≡ families words
load_keeps words w = same_word words w (words w) refl

-- an exchange that finds another number
pub cas_keeps :
    (words : Word → ℕ) (w : Word) (expected new : ℕ) →
    (words w == expected) ≡ false → families (words_after words (Cas w expected new)) ≡ families words
cas_keeps words w expected new e =
    same_word words w (if words w == expected then new else words w) (ap (λ b. if b then new else words w) e)

-- the decision after a drop
pub dropped_not_0 : (stage : Stage) → is_dropped stage ≡ true → (decide_of stage == 0) ≡ false
dropped_not_0 Gathering e = cc
dropped_not_0 Going e = cc
dropped_not_0 DroppedByKick e = refl
dropped_not_0 (DroppedBy t) e = grind (arith, nat_tests)

pub dropped_not_1 : (stage : Stage) → is_dropped stage ≡ true → (decide_of stage == 1) ≡ false
dropped_not_1 Gathering e = cc
dropped_not_1 Going e = cc
dropped_not_1 DroppedByKick e = refl
dropped_not_1 (DroppedBy t) e = grind (arith, nat_tests)

-- a test whose outcome is known
pub taken : {A : Type 0} (b : Bool) (x y : A) → b ≡ true → (if b then x else y) ≡ x
taken b x y e = rw e refl

pub not_taken : {A : Type 0} (b : Bool) (x y : A) → b ≡ false → (if b then x else y) ≡ y
not_taken b x y e = rw e refl
