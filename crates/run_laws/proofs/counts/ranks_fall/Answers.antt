use Rattle.run_laws.proofs.Events.{ranks_fall}
use Rattle.run_laws.proofs.Ranks.{all_ranks_fall, first_ranks}
use Rattle.run_laws.proofs.counts.ranks_fall.Goals as goal

pub returns : goal.returns
returns c = record { one = ranks_fall; together = all_ranks_fall; first = first_ranks }
