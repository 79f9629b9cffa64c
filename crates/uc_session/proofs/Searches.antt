-- A search for the lowest thread that passes a test, one thread at a time.
use Rattle.std.proofs.Common.{◌≡◌, ℕ, suc, ◌+◌, ◌-◌, ◌<◌, ◌≤◌, Bool, true, false, Some, None, refl, arith}
use Rattle.std.specs.List.{find, range_with_len}
use Rattle.session_steps.specs.rendezvous_steps.Plan.{Plan}
use Rattle.rendezvous_model.specs.Verdict.{lowest}
use Rattle.uc_session.specs.Verdicts.{lowest_from}

find_skip : (p : ℕ → Bool) (k n m : ℕ) → n ≡ suc m → p k ≡ false → find p (range_with_len k n) ≡ find p (range_with_len (k + 1) m)
find_skip p k n m e fails = rw (e, fails) refl

find_here : (p : ℕ → Bool) (k n m : ℕ) → n ≡ suc m → p k ≡ true → find p (range_with_len k n) ≡ Some k
find_here p k n m e passes = rw (e, passes) refl

find_end : (p : ℕ → Bool) (k n : ℕ) → n ≡ 0 → find p (range_with_len k n) ≡ None
find_end p k n e = rw e refl

pub lowest-is : (plan : Plan) (test : ℕ → Bool) → lowest plan test ≡ lowest_from plan test 0
unfolding lowest lowest_from
lowest-is plan test = refl

pub lowest_from-skip : (plan : Plan) (test : ℕ → Bool) (k : ℕ) → k < plan.threads → test k ≡ false → lowest_from plan test k ≡ lowest_from plan test (k + 1)
unfolding lowest_from
lowest_from-skip plan test k below fails = find_skip _ k (plan.threads - k) (plan.threads - (k + 1)) (omega arith) fails

pub lowest_from-here : (plan : Plan) (test : ℕ → Bool) (k : ℕ) → k < plan.threads → test k ≡ true → lowest_from plan test k ≡ Some k
unfolding lowest_from
lowest_from-here plan test k below passes = find_here _ k (plan.threads - k) (plan.threads - (k + 1)) (omega arith) passes

pub lowest_from-end : (plan : Plan) (test : ℕ → Bool) (k : ℕ) → plan.threads ≤ k → lowest_from plan test k ≡ None
unfolding lowest_from
lowest_from-end plan test k past = find_end _ k (plan.threads - k) (omega arith)

pub ruleset lowest_search = (lowest-is, lowest_from-skip, lowest_from-here, lowest_from-end)
