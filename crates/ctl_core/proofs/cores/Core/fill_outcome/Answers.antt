use Rattle.std.proofs.Common.{◌∙◌}
use Rattle.uc_rendezvous.proofs.Shown.{decide_shown}
use Rattle.ctl_core.proofs.cores.Core.fill_outcome.Goals as goal

pub returns : goal.returns
returns c =
    record {
      decide = c.decision-outcome.ensures ∙ decide_shown _;
      ends = c.fill_ends.ensures;
      revs = c.fill_revisions.ensures;
    }
