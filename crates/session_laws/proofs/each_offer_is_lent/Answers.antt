use Rattle.session_laws.proofs.Lent.{boots_lend, loads_lend}
use Rattle.session_laws.proofs.each_offer_is_lent.Goals as goal

pub returns-clause-boot : goal.returns-clause-boot
returns-clause-boot c = boots_lend

pub returns-clause-load : goal.returns-clause-load
returns-clause-load c = loads_lend
