use Rattle.session_laws.proofs.Plans.{plans_sound}
use Rattle.session_laws.proofs.each_plan_is_sound.Goals as goal

pub returns : goal.returns
returns c = plans_sound
