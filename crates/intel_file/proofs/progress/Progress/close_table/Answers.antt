use Rattle.intel_file.proofs.Steps.{table_fails, table_holds, pairs_counted}
use Rattle.intel_file.proofs.progress.Progress.close_table.Goals as goal

pub returns-in-Some : goal.returns-in-Some
returns-in-Some c = λ own pairs whole.
    table_fails c.args.self.now own pairs whole.0 whole.1 c.in-Some.cause (c.in-Some.ensures _ _ _ whole.0.so_far whole.1)

pub returns-in-None : goal.returns-in-None
returns-in-None c = λ own pairs whole.
    c.close.ensures own pairs (table_holds c.args.self.now own pairs whole.0 whole.1 (c.in-None.ensures _ _ _ whole.0.so_far whole.1)) (pairs_counted c.args.self.now own pairs whole.0 whole.1)
