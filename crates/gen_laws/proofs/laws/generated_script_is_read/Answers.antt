use Rattle.gen_laws.proofs.Script.{script_states}
use Rattle.gen_laws.proofs.laws.generated_script_is_read.Goals as goal

pub returns : goal.returns
returns c = script_states
