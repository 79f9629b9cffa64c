use Rattle.play_laws.proofs.Patient.{in_time_is_done}
use Rattle.play_laws.proofs.outcomes.an_outcome_in_time_is_done.Goals as goal

pub returns : goal.returns
returns c = in_time_is_done
