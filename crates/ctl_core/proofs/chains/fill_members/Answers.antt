use Rattle.std.proofs.Common.{◌≡◌, ℕ, ◌+◌, ◌-◌, ◌∙◌, Option, None, replicate, ap, subst, arith}
use Rattle.ctl_words.specs.Plans.{plan_of}
use Rattle.ctl_core.specs.Chains.{Linking}
use Rattle.ctl_core.proofs.Chaining.{linking-opens, linking-ends}
use Rattle.ctl_core.proofs.chains.fill_members.Goals as goal

pub loop-thread-init : goal.loop-thread-init
loop-thread-init c =
    linking-opens (plan_of c.args.plan.now) _ _ c.in_ok-fill_nobody.ensures (c.in_ok-fill_nobody-2.ensures ∙ ap (λ n. replicate {A = Option ℕ} n None) c.groups.ensures.value)

pub link-requires-clause-linked : goal.link-requires-clause-linked
link-requires-clause-linked c =
    let back : c.loop-thread.thread ≡ c.loop-thread.thread - 1 + 1 = omega arith in
    subst (λ k. Linking (plan_of c.args.plan.now) c.loop-thread.table.items c.loop-thread.lowest.items k) back c.loop-thread.invariant

pub returns : goal.returns
returns c =
    let done : c.loop-thread.thread ≡ 0 = omega arith in
    linking-ends (plan_of c.args.plan.now) c.loop-thread.table.items c.loop-thread.lowest.items (subst (λ k. Linking (plan_of c.args.plan.now) c.loop-thread.table.items c.loop-thread.lowest.items k) done c.loop-thread.invariant)
