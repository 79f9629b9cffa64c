use Rattle.std.proofs.Common.{◌≡◌, [], length, filter}
use Rattle.uc_text.specs.Lines.{counts}
use Rattle.uc_topology.specs.Grammar.{after_lines}
use Rattle.uc_topology.proofs.reading.read_body.Given as goal

-- the lines that are left, after what is stated, state what all lines do
abbrev pub invariant-loop-line : goal.invariant-loop-line
invariant-loop-line l = after_lines l.version l.tables (filter counts l.lines) ≡ after_lines l.version (record { cores = []; threads = [] }) (filter counts l.initial.lines)

abbrev pub decreases-loop-line : goal.decreases-loop-line
decreases-loop-line l = length (filter counts l.lines)
