use Rattle.play_laws.proofs.Rounds.{enough_rounds}
use Rattle.play_laws.proofs.Patient.{enough_rounds_finish}
use Rattle.play_laws.proofs.stuck.enough_rounds_end.Goals as goal

pub returns : goal.returns
returns c = record { over = enough_rounds; outcome = enough_rounds_finish }
