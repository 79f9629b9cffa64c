use Rattle.std.proofs.Common.{false}
use Rattle.ctl_core.proofs.Changes.{latched_changed, Fits-latched}
use Rattle.ctl_core.proofs.moments.Moment.ordinary.Goals as goal

pub returns-clause-state : goal.returns-clause-state
returns-clause-state c = rw c.set_latched.ensures (latched_changed _ _ c.args.thread false c.requires.fits c.requires.in_range)

pub returns-clause-fits : goal.returns-clause-fits
returns-clause-fits c = rw c.set_latched.ensures (Fits-latched _ _ c.args.thread false c.requires.fits)
