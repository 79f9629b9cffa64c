use Rattle.std.proofs.Common.{◌≡◌, filter}
use Rattle.uc_text.specs.Lines.{counts}
use Rattle.uc_text.proofs.lines.Lines.next_counted.Given as goal

-- lines that were passed over do not count
abbrev pub invariant-loop-line : goal.invariant-loop-line
invariant-loop-line l =
    (goal.iterator-loop-line).can_next l.self × (goal.iterator-loop-line).is_finite l.self ×
    (filter counts l.self ≡ filter counts l.initial.self)
