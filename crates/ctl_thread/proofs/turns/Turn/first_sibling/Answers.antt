use Rattle.std.proofs.Common.{◌≡◌, Some, sym, ◌∙◌}
use Rattle.std.specs.List.{slice_get}
use Rattle.ctl_words.specs.Plans.{plan_of}
use Rattle.ctl_thread.proofs.Linking.{first_after}
use Rattle.ctl_thread.proofs.turns.Turn.first_sibling.Goals as goal

pub returns-in-Some : goal.returns-in-Some
returns-in-Some c =
    let turn = c.args.self.now in
    let plan = plan_of turn.plan.now in
    let entry : slice_get turn.links.members.now turn.thread ≡ Some c.in-Some.next = sym (rw c.from.ensures at c.in-Some.ensures) in
    let lowest : turn.thread ≡ plan.primary (plan.group turn.thread) = c.if-is_primary.true ∙ (rw c.group_of.ensures at c.primary_of.ensures) in
    turn.linked.members.entry turn.thread c.in-Some.next entry ∙ sym (first_after plan turn.thread turn.sound.sound turn.in_range lowest)
