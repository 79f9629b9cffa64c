use Rattle.std.proofs.Common.{◌≡◌, ◌∷◌, ◌∙◌, List, ℕ, ap, sym, subst, false}
use Rattle.uc_text.specs.Lines.{words_of}
use Rattle.uc_script.specs.FirstLine.{first_line, left_words, left_text}
use Rattle.uc_script.specs.Schedules.{Counted, LeavesSchedule}
use Rattle.uc_script.proofs.Scheduled.{counted-push, leaves_less, leaves_on}
use Rattle.uc_script.proofs.beats.add_words.Goals as goal

pub loop-is_done-preserved : goal.loop-is_done-preserved
loop-is_done-preserved c =
    let found = c.in-Some.ensures in
    let open_line : c.loop-is_done.is_done ≡ false = c.loop-is_done-test.true in
    let taken = c.in_ok-left.ensures.0 in
    let words : List (List ℕ) = left_words c.args.text.now c.args.is_done in
    let so_far : LeavesSchedule c.args.limits words c.args.beats.now (words_of (first_line c.loop-is_done.rest.now)) c.loop-is_done.beats =
    subst (λ (ws : List (List ℕ)). LeavesSchedule c.args.limits words c.args.beats.now ws c.loop-is_done.beats) (ap (left_words c.loop-is_done.rest.now) open_line) c.loop-is_done.invariant.leaves in
    let leaves = leaves_on c.args.limits words c.args.beats.now (words_of (first_line c.loop-is_done.rest.now)) c.loop-is_done.beats (words_of (first_line c.in_ok-left.left.now)) c.add_short.new.beats so_far taken.leaves in
    record {
      leaves = leaves_less c.args.limits words c.args.beats.now (words_of (first_line c.in_ok-left.left.now)) c.add_short.new.beats (found.mark ∷ found.digits)
          (left_words c.in-Some.first.rest.now c.in-Some.first.is_last) c.in-Some.first.beat c.push.new.self
          leaves found.words found.read c.in_ok-push.ensures.ok;
      after = c.loop-is_done.invariant.after ∙ ap (left_text c.loop-is_done.rest.now) open_line ∙ taken.after ∙ found.after;
      counted = subst (λ beats. Counted c.args.limits beats c.saturating_add.result) (sym c.in_ok-push.ensures.ok)
          (counted-push c.args.limits c.add_short.new.beats c.in-Some.first.beat c.add_short.new.events c.events_of.result c.saturating_add.result c.in_ok-left.ensures.1 c.events_of.ensures c.saturating_add.ensures);
    }
