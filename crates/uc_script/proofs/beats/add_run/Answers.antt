use Rattle.std.proofs.Common.{subst, sym}
use Rattle.uc_script.specs.Schedules.{Counted}
use Rattle.uc_script.proofs.Scheduled.{adds_beat, counted-push}
use Rattle.uc_script.proofs.beats.add_run.Goals as goal

pub loop-first-preserved : goal.loop-first-preserved
loop-first-preserved c = record {
  adds = adds_beat c.args.limits c.args.text.now c.args.beats.now c.loop-first.rest.now c.loop-first.beats c.in-Some.first.beat c.in-Some.first.rest.now c.push.new.self
      c.loop-first.invariant.adds c.in-Some.ensures c.in_ok-push.ensures.ok;
  counted = subst (λ beats. Counted c.args.limits beats c.saturating_add-count.result) (sym c.in_ok-push.ensures.ok)
      (counted-push c.args.limits c.loop-first.beats c.in-Some.first.beat c.loop-first.count c.events_of.result c.saturating_add-count.result c.loop-first.invariant.counted c.events_of.ensures c.saturating_add-count.ensures);
}
