use Rattle.std.proofs.Common.{◌≡◌, true, false, sym, ap, ◌∙◌}
use Rattle.rendezvous_steps.specs.Plan.{is_offline}
use Rattle.ctl_words.specs.Plans.{plan_of}
use Rattle.ctl_core.proofs.Chaining.{offline_from-here, offline_from-skip}
use Rattle.ctl_core.proofs.chains.or_this.Goals as goal

pub returns-then-is_offline : goal.returns-then-is_offline
returns-then-is_offline c =
    let offline : is_offline ((plan_of c.args.plan.now).kind c.args.thread) ≡ true = ap is_offline (sym c.kind_of.ensures) ∙ (sym c.is_offline.ensures ∙ c.if-is_offline.true) in
    sym (offline_from-here (plan_of c.args.plan.now) c.args.thread c.requires.in_range offline)

pub returns-else-is_offline : goal.returns-else-is_offline
returns-else-is_offline c =
    let other : is_offline ((plan_of c.args.plan.now).kind c.args.thread) ≡ false = ap is_offline (sym c.kind_of.ensures) ∙ (sym c.is_offline.ensures ∙ c.if-is_offline.false) in
    c.requires.next ∙ sym (offline_from-skip (plan_of c.args.plan.now) c.args.thread c.requires.in_range other)
