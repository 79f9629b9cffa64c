use Rattle.run_laws.proofs.Few.{few_counted}
use Rattle.run_laws.proofs.counts.few_items_count.Goals as goal

pub returns : goal.returns
returns c = few_counted
