use Rattle.ctl_table.specs.Posts.{IsOf}
use Rattle.uc_live.specs.Chains.{Stays}
use Rattle.uc_live.proofs.workers.Worker.finish.Given as goal

-- the post is the bay's, and was only stepped
abbrev pub invariant-loop : goal.invariant-loop
invariant-loop g l =
    (goal.iterator-loop g).can_next l.iterator'
    × (goal.iterator-loop g).is_finite l.iterator' × IsOf l.self.bay.now l.post × Stays l.fn.post l.post
