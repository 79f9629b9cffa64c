use Rattle.play_laws.proofs.Unlisted.{ends_are_unlisted}
use Rattle.play_laws.proofs.outcomes.the_end_is_unlisted.Goals as goal

pub returns : goal.returns
returns c = ends_are_unlisted
