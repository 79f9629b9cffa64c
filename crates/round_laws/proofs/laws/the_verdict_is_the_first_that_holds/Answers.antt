use Rattle.round_laws.proofs.Verdicts.{verdict_holds, verdict_is_one}
use Rattle.round_laws.proofs.laws.the_verdict_is_the_first_that_holds.Goals as goal

pub returns : goal.returns
returns c = record { holds = verdict_holds; one = verdict_is_one }
