use Rattle.std.proofs.Common.{◌≡◌, take}
use Rattle.ctl_table.proofs.copies.copy_table.Given as goal

-- the entries so far
abbrev pub invariant-loop-entry : goal.invariant-loop-entry
invariant-loop-entry g l = l.copy.items ≡ take l.entry-index l.entry-items
