use Rattle.std.proofs.Common.{◌≡◌, ◌∷◌, List, ℕ, IfOk, refl, sym, subst}
use Rattle.uc_text.specs.Lines.{words_of}
use Rattle.uc_script.specs.FirstLine.{first_line, left_words}
use Rattle.uc_script.specs.Schedules.{Counted}
use Rattle.uc_script.proofs.Scheduled.{counted-push, leaves_less, leaves_scheduled}
use Rattle.uc_script.proofs.ShortWords.{line_of_beats}
use Rattle.uc_script.proofs.beats.add_line.Goals as goal

pub add_words-requires : goal.add_words-requires
add_words-requires c =
    subst (λ beats. Counted c.args.limits beats c.saturating_add.result) (sym c.in-Ok.ensures.ok)
    (counted-push c.args.limits c.args.beats.now c.in_ok-first.first.beat c.args.events.now c.events_of.result c.saturating_add.result c.requires c.events_of.ensures c.saturating_add.ensures)

pub returns-in-Ok : goal.returns-in-Ok
returns-in-Ok c =
    let first = c.in_ok-first.ensures in
    let words : List (List ℕ) = words_of (first_line c.args.text.now) in
    let left : List (List ℕ) = left_words c.in_ok-first.first.rest.now c.in_ok-first.first.is_last in
    let leaves = leaves_less c.args.limits words c.args.beats.now words c.args.beats.now (first.mark ∷ first.digits) left c.in_ok-first.first.beat c.push.new.self (refl, refl) first.words first.read c.in-Ok.ensures.ok in (
      line_of_beats c.args.limits c.args.text.now _ _ _ first,
      leaves_scheduled c.args.limits words c.args.beats.now left c.push.new.self c.add_words.new.beats c.add_words.new.events c.add_words.result leaves c.add_words.ensures.scheduled,
      subst (λ (text : List ℕ). IfOk c.add_words.result (λ rest. rest.now ≡ text)) (sym first.after) c.add_words.ensures.rest,
    )

pub returns-in-Err : goal.returns-in-Err
returns-in-Err c = (line_of_beats c.args.limits c.args.text.now _ _ _ c.in_ok-first.ensures, tt, tt)
