use Rattle.ctl_words.specs.Plans.{plan_of}
use Rattle.uc_rendezvous.specs.Outcomes.{outcome_of}
use Rattle.rendezvous_model.specs.Verdict.{load_verdict}
use Rattle.round_laws.proofs.Verdicts.{verdict_holds}
use Rattle.uc_session.proofs.verdicts.verdict.Goals as goal

pub returns : goal.returns
returns c = record {
  verdict = load_verdict (plan_of c.args.plan.now) (outcome_of c.args.outcome.now);
  holds = verdict_holds (plan_of c.args.plan.now) (outcome_of c.args.outcome.now);
  is_answer = c.first_that_holds.ensures;
}
