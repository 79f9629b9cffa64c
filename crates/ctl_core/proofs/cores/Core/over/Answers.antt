use Rattle.std.proofs.Common.{◌≡◌, ap, sym, subst, arith}
use Rattle.rendezvous_steps.specs.Events.{Running, opening_running}
use Rattle.play_steps.specs.Rank.{all_ranks}
use Rattle.run_laws.proofs.Ranks.{first_ranks}
use Rattle.ctl_words.specs.Plans.{plan_of}
use Rattle.ctl_core.specs.Moments.{running_of}
use Rattle.play_laws.specs.Lawful.{Lawful}
use Rattle.play_laws.proofs.EachRun.{opening_lawful}
use Rattle.ctl_words.proofs.TablesEnd.{padded}
use Rattle.ctl_core.proofs.cores.Core.over.Goals as goal

pub invariant_of-result : goal.invariant_of-result
invariant_of-result c =
    let plan = plan_of c.args.plan.now in
    let ranks : all_ranks plan (running_of c.begin.new.self).locals ≡ all_ranks plan (opening_running plan).locals = ap (λ (r : Running). all_ranks plan r.locals) c.in_ok-begin.ensures.opening in
    record { sound = c.requires; fits = c.in_ok-begin.ensures.fits; few = omega (arith, ranks, first_ranks plan) }

pub returns-clause-lawful : goal.returns-clause-lawful
returns-clause-lawful c =
    let plan = plan_of c.args.plan.now in
    subst (λ (m : Running). Lawful plan m) (sym c.in_ok-begin.ensures.opening) (opening_lawful plan c.requires.sound (padded c.args.plan.now c.requires))
