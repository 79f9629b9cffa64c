use Rattle.ctl_thread.proofs.Ranges.{words, place}
use Rattle.ctl_thread.proofs.laws.stays_in_the_plan.Goals as goal

pub returns-clause-words : goal.returns-clause-words
returns-clause-words c = words

pub returns-clause-loops : goal.returns-clause-loops
returns-clause-loops c = place
