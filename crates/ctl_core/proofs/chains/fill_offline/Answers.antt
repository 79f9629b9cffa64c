use Rattle.std.proofs.Common.{◌≡◌, ◌+◌, ◌-◌, subst, arith}
use Rattle.ctl_words.specs.Plans.{plan_of}
use Rattle.ctl_core.proofs.Chaining.{Passed, passed-opens, passed-more, passed-ends}
use Rattle.ctl_core.proofs.chains.fill_offline.Goals as goal

pub loop-thread-init : goal.loop-thread-init
loop-thread-init c = passed-opens (plan_of c.args.plan.now) c.fill_nobody.new.table.items c.in_ok-fill_nobody.ensures

pub loop-thread-preserved : goal.loop-thread-preserved
loop-thread-preserved c =
    let plan = plan_of c.args.plan.now in
    let back : c.loop-thread.thread ≡ c.loop-thread.thread - 1 + 1 = omega arith in
    let before = subst (λ k. Passed plan c.loop-thread.table.items c.loop-thread.next k) back c.loop-thread.invariant in
    rw c.from.ensures (passed-more plan c.loop-thread.table.items c.loop-thread.next c.or_this-next.result (c.loop-thread.thread - 1) before c.or_this-next.ensures)

pub returns : goal.returns
returns c =
    let done : c.loop-thread.thread ≡ 0 = omega arith in
    passed-ends (plan_of c.args.plan.now) c.loop-thread.table.items c.loop-thread.next (subst (λ k. Passed (plan_of c.args.plan.now) c.loop-thread.table.items c.loop-thread.next k) done c.loop-thread.invariant)
