-- A search for an unfinished thread, one thread at a time.
use Rattle.std.proofs.Common.{◌≡◌, ℕ, suc, ◌+◌, ◌-◌, ◌<◌, ◌≤◌, Bool, true, false, not, Some, None, refl, ap, arith}
use Rattle.std.specs.List.{find, range_with_len}
use Rattle.rendezvous_steps.specs.declared.operations.Word.{Word}
use Rattle.rendezvous_steps.specs.Plan.{Plan}
use Rattle.rendezvous_steps.specs.Events.{Running, shows_finished}
use Rattle.ctl_core.specs.Moments.{unfinished_from, is_ready, ready_from}

find_skip : (p : ℕ → Bool) (k n m : ℕ) → n ≡ suc m → p k ≡ false → find p (range_with_len k n) ≡ find p (range_with_len (k + 1) m)
find_skip p k n m e fails = rw (e, fails) refl

find_here : (p : ℕ → Bool) (k n m : ℕ) → n ≡ suc m → p k ≡ true → find p (range_with_len k n) ≡ Some k
find_here p k n m e passes = rw (e, passes) refl

find_end : (p : ℕ → Bool) (k n : ℕ) → n ≡ 0 → find p (range_with_len k n) ≡ None
find_end p k n e = rw e refl

pub unfinished_from-skip : (plan : Plan) (words : Word → ℕ) (k : ℕ) → k < plan.threads → shows_finished plan words k ≡ true → unfinished_from plan words k ≡ unfinished_from plan words (k + 1)
unfolding unfinished_from
unfinished_from-skip plan words k below finished =
    find_skip _ k (plan.threads - k) (plan.threads - (k + 1)) (omega arith) (ap (λ b. not b) finished)

pub unfinished_from-here : (plan : Plan) (words : Word → ℕ) (k : ℕ) → k < plan.threads → shows_finished plan words k ≡ false → unfinished_from plan words k ≡ Some k
unfolding unfinished_from
unfinished_from-here plan words k below unfinished =
    find_here _ k (plan.threads - k) (plan.threads - (k + 1)) (omega arith) (ap (λ b. not b) unfinished)

pub unfinished_from-end : (plan : Plan) (words : Word → ℕ) (k : ℕ) → plan.threads ≤ k → unfinished_from plan words k ≡ None
unfolding unfinished_from
unfinished_from-end plan words k past = find_end _ k (plan.threads - k) (omega arith)

pub ready_from-skip : (plan : Plan) (moment : Running) (k : ℕ) → k < plan.threads → is_ready plan moment k ≡ false → ready_from plan moment k ≡ ready_from plan moment (k + 1)
unfolding ready_from
ready_from-skip plan moment k below fails = find_skip _ k (plan.threads - k) (plan.threads - (k + 1)) (omega arith) fails

pub ready_from-here : (plan : Plan) (moment : Running) (k : ℕ) → k < plan.threads → is_ready plan moment k ≡ true → ready_from plan moment k ≡ Some k
unfolding ready_from
ready_from-here plan moment k below passes = find_here _ k (plan.threads - k) (plan.threads - (k + 1)) (omega arith) passes

pub ready_from-end : (plan : Plan) (moment : Running) (k : ℕ) → plan.threads ≤ k → ready_from plan moment k ≡ None
unfolding ready_from
ready_from-end plan moment k past = find_end _ k (plan.threads - k) (omega arith)

pub ruleset ready_search = (ready_from-skip, ready_from-here, ready_from-end)

pub ruleset unfinished_search = (unfinished_from-skip, unfinished_from-here, unfinished_from-end)
