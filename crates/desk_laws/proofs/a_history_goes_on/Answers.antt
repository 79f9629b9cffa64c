use Rattle.desk_laws.proofs.Histories.{begins, goes_on}
use Rattle.desk_laws.proofs.a_history_goes_on.Goals as goal

pub returns-clause-begins : goal.returns-clause-begins
returns-clause-begins c = begins

pub returns-clause-goes_on : goal.returns-clause-goes_on
returns-clause-goes_on c = goes_on
