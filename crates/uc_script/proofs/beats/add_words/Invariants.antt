use Rattle.std.proofs.Common.{◌≡◌, length}
use Rattle.uc_script.specs.FirstLine.{left_words, left_text}
use Rattle.uc_script.specs.Schedules.{Counted, LeavesSchedule}
use Rattle.uc_script.proofs.beats.add_words.Given as goal

-- the words so far are put, and those that are left of the line come to what all come to
abbrev pub invariant-loop-is_done : goal.invariant-loop-is_done
invariant-loop-is_done l = record {
  leaves : LeavesSchedule l.limits (left_words l.text l.fn.is_done) l.fn.beats (left_words l.rest l.is_done) l.beats;
  after : left_text l.text l.fn.is_done ≡ left_text l.rest l.is_done;
  counted : Counted l.limits l.beats l.events;
}

abbrev pub decreases-loop-is_done : goal.decreases-loop-is_done
decreases-loop-is_done l = length (left_words l.rest l.is_done)
