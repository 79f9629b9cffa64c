use Rattle.std.proofs.Common.{◌≡◌, filter, length}
use Rattle.uc_text.specs.Lines.{counts}
use Rattle.uc_script.proofs.rest.Rest.next_counted.Given as goal

-- lines that were passed over do not count
abbrev pub invariant-loop-line : goal.invariant-loop-line
invariant-loop-line l = filter counts l.self ≡ filter counts l.initial.self

abbrev pub decreases-loop-line : goal.decreases-loop-line
decreases-loop-line l = length l.self
