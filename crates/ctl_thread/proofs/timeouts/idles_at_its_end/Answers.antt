use Rattle.ctl_thread.proofs.Patient.{idle_is_last}
use Rattle.ctl_thread.proofs.timeouts.idles_at_its_end.Goals as goal

pub returns : goal.returns
returns c = idle_is_last
