use Rattle.std.proofs.Common.{ℕ, Option, sym, ◌∙◌, subst}
use Rattle.intel_ext.specs.SoFar.{IsFirstBad}
use Rattle.intel_ext.proofs.Fronts.{still_bad, now_bad, still_good}
use Rattle.intel_ext.proofs.so_far.bad_after.Goals as goal

pub returns-in-Some : goal.returns-in-Some
returns-in-Some c = λ table entry long whole sum first.
    still_bad table entry c.args.came long whole c.args.triple c.in-Some.first
    (subst (λ (bad : Option ℕ). IsFirstBad c.args.triple table c.args.came bad) c.in-Some.is first)

pub returns-then-sum-triple : goal.returns-then-sum-triple
returns-then-sum-triple c = λ table entry long whole sum first.
    still_good table entry c.args.came long whole c.args.triple (subst (λ (bad : Option ℕ). IsFirstBad c.args.triple table c.args.came bad) c.in-None.is first) (sym sum ∙ c.if-sum-triple.true)

pub returns-else-sum-triple : goal.returns-else-sum-triple
returns-else-sum-triple c = λ table entry long whole sum first.
    now_bad table entry c.args.came long whole c.args.triple (subst (λ (bad : Option ℕ). IsFirstBad c.args.triple table c.args.came bad) c.in-None.is first) (λ same. c.if-sum-triple.false (sum ∙ same))
