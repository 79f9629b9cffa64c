use Rattle.std.proofs.Common.{length}
use Rattle.uc_text.specs.Lines.{words_of}
use Rattle.uc_script.proofs.Scheduled.{IsScheduledSoFar}
use Rattle.uc_script.proofs.beats.add_beats.Given as goal

abbrev pub invariant-loop-read : goal.invariant-loop-read
invariant-loop-read l = IsScheduledSoFar l.limits (words_of l.line) l.fn.beats l.words l.beats l.events l.spelled l.in_range

abbrev pub decreases-loop-read : goal.decreases-loop-read
decreases-loop-read l = length l.words
