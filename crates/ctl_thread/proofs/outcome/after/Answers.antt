use Rattle.ctl_words.specs.Plans.{plan_of}
use Rattle.ctl_thread.proofs.outcome.after.Goals as goal

pub after_linked-requires-clause-linked : goal.after_linked-requires-clause-linked
after_linked-requires-clause-linked c = c.none.ensures (plan_of c.args.plan.now)
