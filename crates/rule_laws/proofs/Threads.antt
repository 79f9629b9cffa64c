-- Counts over all threads, and over those other than 0.
use Rattle.std.proofs.Common.{◌≡◌, ℕ, suc, ◌+◌, ◌-◌, ◌<◌, Bool, cond, count_by, ap, ◌∙◌, arith}
use Rattle.rendezvous_steps.specs.Plan.{Plan, threads_from}
use Rattle.rule_laws.proofs.Count.{count, count_step}

-- thread 0, and then the others
pub count_zero_first :
    (plan : Plan) (p : ℕ → Bool) →
    0 < plan.threads → count_by p (threads_from plan 0) ≡ cond (p 0) 1 0 + count_by p (threads_from plan 1)
count_zero_first plan p some =
    let e : plan.threads - 0 ≡ suc (plan.threads - 1) = omega arith in
    ap (count p 0) e ∙ count_step p 0 (plan.threads - 1)
