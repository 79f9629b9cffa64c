use Rattle.std.proofs.Common.{◌+◌, [], refl, sym, ap, subst, ◌∙◌, arith}
use Rattle.atomic_table.specs.Table.{Me, Splits}
use Rattle.rendezvous_steps.specs.StepTable.{opening}
use Rattle.ctl_words.specs.declared.plans.Plan.{Plan as Tables}
use Rattle.ctl_words.specs.Plans.{plan_of}
use Rattle.ctl_table.specs.declared.standings.View.{View}
use Rattle.ctl_table.specs.Standings.{left_of, right_of}
use Rattle.ctl_table.specs.Holds.{Holds}
use Rattle.ctl_table.specs.Posts.{standing_of}
use Rattle.ctl_table.proofs.Giving.{split_kept}
use Rattle.ctl_table.proofs.Opened.{opened_of}
use Rattle.ctl_table.proofs.bays.Bay.split.Goals as goal

pub split_seat-seat-requires : goal.split_seat-seat-requires
split_seat-seat-requires c =
    let bay = c.args.self.now in
    let post = c.args.post.now in
    let sits = c.requires.ours.sits in
    let sized = bay.sized in (
      c.requires.ours.same_table,
      omega arith,
      subst (λ (p : Tables). Splits (Holds p) post.seat.id post.seat.me.0 (left_of post.seat.me.0) (right_of post.seat.me.0)) (sym bay.keyed)
          (split_kept bay.plan.value post.seat.id post.seat.me.0 (standing_of bay.plan.value post) (ap (λ (m : Me (Unit {0}) View). m.0) sits) c.requires.first c.requires.room),
    )

pub returns-clause-ours : goal.returns-clause-ours
returns-clause-ours c =
    let bay = c.args.self.now in
    let ours = c.requires.ours in
    let split = c.split_seat-seat.ensures in (
      record {
        same_table = split.0 ∙ ours.same_table;
        sits = split.2 ∙ ap (λ (m : Me (Unit {0}) View). (left_of m.0, m.1)) ours.sits;
        thread_in_range = ours.thread_in_range;
        at_in_range = ours.at_in_range;
      },
      opened_of bay _ (c.args.post.now.given + 1) (split.3 ∙ ours.same_table) (split.4 ∙ ap (λ (m : Me (Unit {0}) View). (right_of m.0, [])) ours.sits)
          record { thread = refl; local = c.opening.ensures ∙ ap (λ (p : Tables). opening (plan_of p) (c.args.post.now.given + 1)) c.deref.ensures; given = refl; joined = refl; late = refl } c.requires.room (omega (arith, c.requires.room)),
    )
