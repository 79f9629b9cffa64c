use Rattle.run_laws.proofs.LowOffer.{sound_is_needed}
use Rattle.run_laws.proofs.needs.revisions_need_sound_plans.Goals as goal

pub returns : goal.returns
returns c = sound_is_needed
