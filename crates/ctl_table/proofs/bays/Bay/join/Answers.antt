use Rattle.std.proofs.Common.{sym, ap, subst, arith}
use Rattle.atomic_table.specs.Table.{Me, Joins}
use Rattle.ctl_words.specs.declared.plans.Plan.{Plan as Tables}
use Rattle.ctl_table.specs.declared.standings.View.{View}
use Rattle.ctl_table.specs.declared.standings.View.TheVariants.{Spent}
use Rattle.ctl_table.specs.Standings.{joined_view}
use Rattle.ctl_table.specs.Holds.{Holds}
use Rattle.ctl_table.specs.Posts.{standing_of}
use Rattle.ctl_table.proofs.Joining.{join_kept}
use Rattle.ctl_table.proofs.bays.Bay.join.Goals as goal

pub join_seat-requires : goal.join_seat-requires
join_seat-requires c =
    let bay = c.args.self.now in
    let post = c.args.post.now in
    let other = c.args.other in
    let mine = c.requires.ours.0 in
    let theirs = c.requires.ours.1 in
    let sized = bay.sized in (
      mine.same_table,
      theirs.same_table,
      ap (λ (m : Me (Unit {0}) View). m.1) theirs.sits,
      omega arith,
      subst (λ (p : Tables). Joins (Holds p) post.seat.id post.seat.me.0 other.seat.id other.seat.me.0 (joined_view post.seat.me.0 other.seat.me.0) Spent) (sym bay.keyed)
          (join_kept bay.plan.value post.seat.id post.seat.me.0 (standing_of bay.plan.value post) other.seat.id other.seat.me.0 (standing_of bay.plan.value other) bay.sound
          (ap (λ (m : Me (Unit {0}) View). m.0) mine.sits) (ap (λ (m : Me (Unit {0}) View). m.0) theirs.sits) c.requires.first c.requires.ended),
    )
