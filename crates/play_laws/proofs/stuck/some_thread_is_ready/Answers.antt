use Rattle.play_laws.proofs.Ready.{never_stuck}
use Rattle.play_laws.proofs.stuck.some_thread_is_ready.Goals as goal

pub returns : goal.returns
returns c = never_stuck
