use Rattle.std.proofs.Common.{arith}
use Rattle.ctl_core.proofs.Small.{firsts_small, writes_small}
use Rattle.ctl_core.proofs.looks.revisions_are_small.Goals as goal

pub returns-clause-first : goal.returns-clause-first
returns-clause-first c =
    firsts_small c.args.plan.now c.requires
    (λ g below. c.loop-group.invariant.first g (omega (arith, below, c.groups-group-end.ensures.value, c.loop-group-test.false)))

pub returns-clause-writes : goal.returns-clause-writes
returns-clause-writes c =
    writes_small c.args.plan.now c.requires
    (λ g below. c.loop-group.invariant.writes g (omega (arith, below, c.groups-group-end.ensures.value, c.loop-group-test.false)))
