-- A table with one entry changed.
use Rattle.std.proofs.Common.{◌≡◌, ◌≢◌, ℕ, ◌==◌, true, false, refl, arith, ◌⊎◌, inl, inr}
use Rattle.std.proofs.lemmas.Bool.Decides.{nat_tests, eqb_tells}
use Rattle.rendezvous_steps.specs.Events.{put}

pub put_same : {A : Type 0} (table : ℕ → A) (t : ℕ) (entry : A) → put table t entry t ≡ entry
unfolding put
put_same table t entry = let e : (t == t) ≡ true = grind (arith, nat_tests) in rw e refl

pub put_other : {A : Type 0} (table : ℕ → A) (t u : ℕ) (entry : A) → u ≢ t → put table t entry u ≡ table u
unfolding put
put_other table t u entry other = let e : (u == t) ≡ false = grind (arith, nat_tests) in rw e refl

pub same_or_not : (x y : ℕ) → (x ≡ y) ⊎ (x ≢ y)
same_or_not x y = elim (eqb_tells x y) [ inl e ↦ inl e.1 | inr e ↦ inr e.1 ]
