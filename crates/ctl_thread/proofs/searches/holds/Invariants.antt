use Rattle.std.proofs.Common.{◌≡◌, ◌==◌, take}
use Rattle.std.specs.List.{list_any}
use Rattle.ctl_thread.proofs.searches.holds.Given as goal

-- whether one of those so far is the number
abbrev pub invariant-loop-other : goal.invariant-loop-other
invariant-loop-other l = l.held ≡ list_any (λ other. other == l.number) (take l.other-index l.numbers)
