use Rattle.ctl_words.specs.Plans.{plan_of}
use Rattle.ctl_thread.proofs.Ascending.{other_groups-skip}
use Rattle.ctl_thread.proofs.searches.sibling_near.Goals as goal

pub returns-else-has_group_near : goal.returns-else-has_group_near
returns-else-has_group_near c =
    other_groups-skip (plan_of c.args.plan.now) c.args.of c.args.from
    (λ u low high. rw c.group_of.ensures at (c.has_group_near.ensures c.if-has_group_near.false u low high))
