use Rattle.run_laws.proofs.Few.{few_inner_items}
use Rattle.run_laws.proofs.counts.no_thread_makes_many_inner_items.Goals as goal

pub returns : goal.returns
returns c = few_inner_items
