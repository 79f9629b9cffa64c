use Rattle.std.proofs.Common.{true}
use Rattle.ctl_core.proofs.Changes.{latched_changed, Fits-latched}
use Rattle.ctl_core.proofs.moments.Moment.latch.Goals as goal

pub returns-clause-state : goal.returns-clause-state
returns-clause-state c = rw c.set_latched.ensures (latched_changed _ _ c.args.thread true c.requires.fits c.requires.in_range)

pub returns-clause-fits : goal.returns-clause-fits
returns-clause-fits c = rw c.set_latched.ensures (Fits-latched _ _ c.args.thread true c.requires.fits)
