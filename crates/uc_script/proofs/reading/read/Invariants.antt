use Rattle.std.proofs.Common.{◌≡◌, filter, length}
use Rattle.uc_text.specs.Lines.{counts}
use Rattle.script_text.specs.Reading.{read_on}
use Rattle.uc_script.proofs.reading.read.Given as goal

-- the lines that are left are read on as all of them are
abbrev pub invariant-loop-line : goal.invariant-loop-line
invariant-loop-line l = read_on l.limits l.draft (filter counts l.lines) ≡ read_on l.limits l.initial.draft (filter counts l.initial.lines)

abbrev pub decreases-loop-line : goal.decreases-loop-line
decreases-loop-line l = length (filter counts l.lines)
