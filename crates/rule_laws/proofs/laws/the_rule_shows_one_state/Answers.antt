use Rattle.rule_laws.proofs.Showing.{ruled_shows, shows_one}
use Rattle.rule_laws.proofs.laws.the_rule_shows_one_state.Goals as goal

pub returns : goal.returns
returns c = record { shows = ruled_shows; one = shows_one }
