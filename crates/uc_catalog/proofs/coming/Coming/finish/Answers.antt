use Rattle.uc_catalog.proofs.coming.Coming.finish.Goals as goal

pub returns-in-Err-clause-finished : goal.returns-in-Err-clause-finished
returns-in-Err-clause-finished c = λ keeps bytes comes. c.in-Err.ensures.finished bytes comes.0
