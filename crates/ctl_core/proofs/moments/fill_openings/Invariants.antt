use Rattle.std.proofs.Common.{◌≡◌, map}
use Rattle.std.specs.List.{range_with_len}
use Rattle.rendezvous_steps.specs.StepTable.{opening}
use Rattle.ctl_words.specs.Plans.{plan_of}
use Rattle.ctl_core.specs.Stands.{local_of}
use Rattle.ctl_core.proofs.moments.fill_openings.Given as goal

-- the threads so far stand where they begin
abbrev pub invariant-loop-thread : goal.invariant-loop-thread
invariant-loop-thread l = map local_of l.stands.items ≡ map (opening (plan_of l.plan)) (range_with_len 0 l.thread)
