use Rattle.play_laws.proofs.Listed.{plays_are_listed}
use Rattle.play_laws.proofs.runs.the_items_are_listed.Goals as goal

pub returns : goal.returns
returns c = plays_are_listed
