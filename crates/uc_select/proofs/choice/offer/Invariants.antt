use Rattle.uc_select.proofs.Best.{IsBestUpTo}
use Rattle.uc_select.proofs.choice.offer.Given as goal

abbrev pub invariant-loop-i : goal.invariant-loop-i
invariant-loop-i l =
    IsBestUpTo l.catalog.entries l.core l.force l.i l.best l.best_rev
