use Rattle.entry_laws.proofs.Offers.{some_offer, one_offer}
use Rattle.entry_laws.proofs.laws.just_one_offer.Goals as goal

pub returns : goal.returns
returns c = record { some = some_offer; one = one_offer }
