use Rattle.session_laws.proofs.Sessions.{sessions_stand}
use Rattle.session_laws.proofs.Stands.{steps_stand}
use Rattle.session_laws.proofs.each_state_stands.Goals as goal

pub returns-clause-steps : goal.returns-clause-steps
returns-clause-steps c = steps_stand

pub returns-clause-sessions : goal.returns-clause-sessions
returns-clause-sessions c = sessions_stand
