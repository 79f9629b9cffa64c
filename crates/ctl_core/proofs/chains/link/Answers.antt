use Rattle.std.proofs.Common.{◌≡◌, ◌<◌, length, get_or, None, sym, ap, ◌∙◌, true, false, arith}
use Rattle.rendezvous_steps.specs.Plan.{is_absent}
use Rattle.ctl_words.specs.Plans.{plan_of}
use Rattle.ctl_core.proofs.Chaining.{read_at, linking-absent, linking-present}
use Rattle.ctl_core.proofs.chains.link.Goals as goal

pub returns-then-not-is_absent : goal.returns-then-not-is_absent
returns-then-not-is_absent c =
    let plan = plan_of c.args.plan.now in
    let group : c.from-group.result ≡ plan.group c.args.thread = c.from-group.ensures ∙ c.group_of.ensures in
    let present : is_absent (plan.kind c.args.thread) ≡ false = ap is_absent (sym c.kind_of.ensures) ∙ (sym c.is_absent.ensures ∙ c.if-not-is_absent.true) in
    let room : plan.group c.args.thread < length c.args.lowest.now.items = omega (arith, c.requires.linked.groups, c.requires.linked.below, c.requires.sound.sound.groups_in_range c.args.thread) in
    let head : c.index.result.now ≡ get_or c.args.lowest.now.items (plan.group c.args.thread) None = read_at c.args.lowest.now.items (plan.group c.args.thread) c.index.result.now room (rw group at c.index.ensures) in
    rw (c.from.ensures, head, group) (linking-present plan c.args.table.now.items c.args.lowest.now.items c.args.thread c.requires.sound.sound present c.requires.linked)

pub returns-else-not-is_absent : goal.returns-else-not-is_absent
returns-else-not-is_absent c =
    let plan = plan_of c.args.plan.now in
    let group : c.from-group.result ≡ plan.group c.args.thread = c.from-group.ensures ∙ c.group_of.ensures in
    let absent : is_absent (plan.kind c.args.thread) ≡ true = ap is_absent (sym c.kind_of.ensures) ∙ (sym c.is_absent.ensures ∙ c.if-not-is_absent.false) in
    let room : plan.group c.args.thread < length c.args.lowest.now.items = omega (arith, c.requires.linked.groups, c.requires.linked.below, c.requires.sound.sound.groups_in_range c.args.thread) in
    let head : c.index.result.now ≡ get_or c.args.lowest.now.items (plan.group c.args.thread) None = read_at c.args.lowest.now.items (plan.group c.args.thread) c.index.result.now room (rw group at c.index.ensures) in
    rw (c.from.ensures, head) (linking-absent plan c.args.table.now.items c.args.lowest.now.items c.args.thread c.requires.sound.sound absent c.requires.linked)
