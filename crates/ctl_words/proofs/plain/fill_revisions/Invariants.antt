use Rattle.std.proofs.Common.{◌≡◌, take}
use Rattle.ctl_words.proofs.plain.fill_revisions.Given as goal

-- the revisions so far
abbrev pub invariant-loop-revision : goal.invariant-loop-revision
invariant-loop-revision l = l.words.items ≡ take l.revision-index l.revision-items
