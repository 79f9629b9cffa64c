use Rattle.std.proofs.Common.{◌≡◌}
use Rattle.ctl_words.specs.Plans.{plan_of}
use Rattle.uc_rendezvous.specs.Outcomes.{outcome_of}
use Rattle.uc_session.specs.Verdicts.{lowest_from, passes}
use Rattle.uc_session.proofs.verdicts.lowest.Given as goal

-- no thread so far passes
abbrev pub invariant-loop-t : goal.invariant-loop-t
invariant-loop-t l =
    lowest_from (plan_of l.plan) (passes l.look (plan_of l.plan) (outcome_of l.outcome)) 0
    ≡ lowest_from (plan_of l.plan) (passes l.look (plan_of l.plan) (outcome_of l.outcome)) l.t
