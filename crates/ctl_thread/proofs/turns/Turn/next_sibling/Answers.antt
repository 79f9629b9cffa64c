use Rattle.std.proofs.Common.{◌≡◌, ℕ, ◌+◌, Some, sym, ap, ◌∙◌, arith}
use Rattle.std.specs.List.{slice_get}
use Rattle.ctl_words.specs.Plans.{plan_of}
use Rattle.ctl_thread.specs.Links.{member_from}
use Rattle.ctl_thread.proofs.Linking.{siblings_after}
use Rattle.ctl_thread.proofs.turns.Turn.next_sibling.Goals as goal

pub returns-in-Some : goal.returns-in-Some
returns-in-Some c =
    let turn = c.args.self.now in
    let plan = plan_of turn.plan.now in
    let at : ℕ = turn.local.now.at in
    let entry : slice_get turn.links.members.now at ≡ Some c.in-Some.next = sym (rw c.from.ensures at c.in-Some.ensures) in
    let same : plan.group at ≡ plan.group turn.thread = sym c.group_of-other.ensures ∙ (c.if-other-group.true ∙ c.group_of-group.ensures) in
    turn.linked.members.entry at c.in-Some.next entry
    ∙ (ap (λ g. member_from plan g (at + 1)) same ∙ sym (siblings_after plan turn.thread (at + 1) (omega arith)))
