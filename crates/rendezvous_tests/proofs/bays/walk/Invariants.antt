use Rattle.ctl_table.specs.Posts.{IsOf}
use Rattle.rendezvous_tests.proofs.bays.walk.Given as goal

-- both posts are the bay's
abbrev pub invariant-loop-thread : goal.invariant-loop-thread
invariant-loop-thread g l = record {
  zero : IsOf l.bay l.zero;
  one : IsOf l.bay l.one;
}
