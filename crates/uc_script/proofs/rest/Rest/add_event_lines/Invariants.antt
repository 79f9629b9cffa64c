use Rattle.std.proofs.Common.{◌+◌, ◌≤◌, filter, length}
use Rattle.std.specs.List.{enumerate_from}
use Rattle.uc_text.specs.Lines.{counts, lines_of}
use Rattle.uc_script.specs.EventLines.{ReadsOn}
use Rattle.uc_script.specs.Schedules.{Counted}
use Rattle.uc_script.proofs.rest.Rest.add_event_lines.Given as goal

-- the lines so far are taken, and those that are left have the numbers that follow
abbrev pub invariant-loop-events : goal.invariant-loop-events
invariant-loop-events l = record {
  reads : ReadsOn l.limits (filter counts l.fn.self) l.fn.beats (filter counts (enumerate_from l.number (lines_of l.text))) l.beats;
  counted : Counted l.limits l.beats l.events;
  within : l.number + length l.text ≤ 16777217;
}

abbrev pub decreases-loop-events : goal.decreases-loop-events
decreases-loop-events l = length l.text
