use Rattle.ctl_thread.proofs.Touched.{touches}
use Rattle.ctl_thread.proofs.laws.touches_few_words.Goals as goal

pub returns : goal.returns
returns c = touches
