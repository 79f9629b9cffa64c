use Rattle.std.proofs.Common.{refl}
use Rattle.ctl_thread.proofs.Linking.{no_links}
use Rattle.ctl_thread.proofs.links.Links.none.Goals as goal

pub returns : goal.returns
returns c = λ plan. no_links plan _ refl refl refl
