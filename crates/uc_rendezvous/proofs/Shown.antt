-- What the state that is shown says of the decision.
use Rattle.std.proofs.Common.{◌≡◌, ℕ, ◌==◌, Bool, true, false, refl, arith}
use Rattle.std.proofs.lemmas.Bool.Decides.{nat_tests}
use Rattle.rendezvous_model.specs.Outcome.{decide_of}
use Rattle.rendezvous_rule.specs.Shown.{stage_of}

-- what a decision's word is by the stage
pub decide_shown : (d : ℕ) → d ≡ decide_of (stage_of d)
decide_shown d = by_first d (d == 0) refl (d == 1) refl (d == 2) refl
  where
    by_first : (d : ℕ) (a : Bool) → (d == 0) ≡ a → (b : Bool) → (d == 1) ≡ b → (c : Bool) → (d == 2) ≡ c → d ≡ decide_of (stage_of d)
    by_first d true e b f c g = rw e (grind (arith, nat_tests))
    by_first d false e true f c g = rw (e, f) (grind (arith, nat_tests))
    by_first d false e false f true g = rw (e, f, g) (grind (arith, nat_tests))
    by_first d false e false f false g = rw (e, f, g) (grind (arith, nat_tests))
