use Rattle.play_laws.proofs.Patient.{patient_is_done}
use Rattle.play_laws.proofs.outcomes.a_patient_schedule_is_done.Goals as goal

pub returns : goal.returns
returns c = patient_is_done
