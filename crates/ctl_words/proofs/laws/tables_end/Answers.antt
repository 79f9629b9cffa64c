use Rattle.ctl_words.proofs.TablesEnd.{padded}
use Rattle.ctl_words.proofs.laws.tables_end.Goals as goal

pub returns : goal.returns
returns c = padded
