use Rattle.std.proofs.Common.{◌+◌, arith}
use Rattle.ctl_words.specs.Plans.{plan_of}
use Rattle.ctl_thread.proofs.Ascending.{among-end}
use Rattle.ctl_thread.proofs.searches.sibling_among.Goals as goal

pub returns : goal.returns
returns c =
    among-end (plan_of c.args.plan.now) c.args.of c.args.from c.loop-thread.thread (c.args.from + 16)
    (omega (arith, c.min-thread-end.ensures, c.from.ensures, c.loop-thread-test.false, c.loop-thread.auto.thread-end)) c.loop-thread.invariant
