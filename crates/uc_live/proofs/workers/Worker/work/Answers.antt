use Rattle.uc_live.proofs.Stepped.{still, stays_on}
use Rattle.uc_live.proofs.workers.Worker.work.Goals as goal

pub loop-init : goal.loop-init
loop-init g c = record { ours = c.requires; stays = still _ }

pub loop-preserved : goal.loop-preserved
loop-preserved g c = record { ours = c.turn.ensures.ours; stays = stays_on _ _ _ c.loop.invariant.stays c.turn.ensures.stays }
