use Rattle.ctl_table.specs.Posts.{IsOf}
use Rattle.uc_live.specs.Chains.{Stays}
use Rattle.uc_live.proofs.workers.Worker.work.Given as goal

-- the post is the bay's, and was only stepped
abbrev pub invariant-loop : goal.invariant-loop
invariant-loop g l = record {
  ours : IsOf l.self.bay.now l.post;
  stays : Stays l.fn.post l.post;
}
