use Rattle.std.proofs.Common.{length}
use Rattle.uc_text.specs.Lines.{words_of}
use Rattle.uc_script.specs.FirstLine.{first_line}
use Rattle.uc_script.specs.Schedules.{AddsBeats, Counted}
use Rattle.uc_script.proofs.beats.add_run.Given as goal

-- the words so far are put, and their events are counted
abbrev pub invariant-loop-first : goal.invariant-loop-first
invariant-loop-first l = record {
  adds : AddsBeats l.limits l.text l.fn.beats l.rest l.beats;
  counted : Counted l.limits l.beats l.count;
}

abbrev pub decreases-loop-first : goal.decreases-loop-first
decreases-loop-first l = length (words_of (first_line l.rest))
